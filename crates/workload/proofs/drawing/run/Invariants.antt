-- `workload::drawing::run`. The invariant: the draws that are left, from where the load is, end as all the draws from its start do. Assumes nothing.
use Rattle.std.specs.Prelude.{◌≡◌, ◌-◌, ◌≤◌, length}
use Rattle.store.specs.State.{state}
use Rattle.workload.specs.Traffic.{draws_from, started}
use Rattle.workload.proofs.Draws.{progress}
use Rattle.workload.proofs.drawing.run.Given as goal

abbrev pub invariant-loop : goal.invariant-loop
invariant-loop l =
    (l.written ≤ length l.log)
    × (draws_from (l.draws - l.counter) (progress l.generator.state l.held (state l.image l.table) l.log l.written)
    ≡ draws_from l.draws (started l.fn.generator.state (state l.initial.image l.initial.table) l.initial.log))
