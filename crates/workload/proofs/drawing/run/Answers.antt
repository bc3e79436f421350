-- `workload::drawing::run`. Assumes nothing.
use Rattle.std.proofs.Common.{◌≡◌, suc, ◌+◌, ◌-◌, ap, arith, rules}
use Rattle.store.specs.State.{state}
use Rattle.workload.specs.Traffic.{Progress, next_choice, logged_by}
use Rattle.workload.proofs.Writers.{put_part}
use Rattle.workload.proofs.Draws.{draws_none, progress, no_space, one_made}
use Rattle.workload.proofs.drawing.run.Goals as goal

-- the log has no space for the next record
pub returns-then-log-end : goal.returns-then-log-end
returns-then-log-end c =
    let l = c.loop in
    let r : Progress = progress l.generator.state l.held (state l.image l.table) l.log l.written in
    let left : suc (c.args.draws - (l.counter + 1)) ≡ c.args.draws - l.counter = omega arith in
    let next : c.choose-c.result ≡ next_choice r = cc (c.choose-c.ensures.choice, c.next.ensures.draw, c.live.ensures) in
    cc (ap logged_by (no_space (c.args.draws - (l.counter + 1)) r _ next (omega arith)), left, l.invariant.1)

-- the next draw is made
pub loop-preserved : goal.loop-preserved
loop-preserved c =
    let l = c.loop in
    let r : Progress = progress l.generator.state l.held (state l.image l.table) l.log l.written in
    let m = c.make in
    let len = c.record_length in
    let left : suc (c.args.draws - (l.counter + 1)) ≡ c.args.draws - l.counter = omega arith in
    let next : c.choose-c.result ≡ next_choice r = cc (c.choose-c.ensures.choice, c.next.ensures.draw, c.live.ensures) in
    let log_is = put_part l.log l.written len.result c.put_record.new.space _ c.put_record.ensures len.ensures.value in
    let turn = one_made (c.args.draws - (l.counter + 1)) r c.choose-c.result next
    (progress c.next.new.self.state m.new.held (state m.new.image m.new.table) _ (l.written + len.result)) (omega arith)
    c.next.ensures.state m.ensures.pointers_after m.ensures.table_after log_is (ap (λ n. l.written + n) len.ensures.value)
    in
    (search rules, cc (turn, left, l.invariant.1))

-- all draws are made
pub returns : goal.returns
returns c =
    let l = c.loop in
    let left : c.args.draws - l.counter ≡ 0 = omega arith in
    cc (ap logged_by (draws_none (progress l.generator.state l.held (state l.image l.table) l.log l.written)), left, l.invariant.1)
