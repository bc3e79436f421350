-- Each turn puts the first of the digits that are left. Assumes nothing.
use Rattle.std.proofs.Common.{ℕ, suc, ◌-◌, ◌≤◌, ◌≡◌, length, subst, arith}
use Rattle.call_log.proofs.Texts.{Putting, none_put, all_put, digit_put}
use Rattle.call_log.proofs.text.Text.put_hexadecimal.Goals as goal

pub loop-k-init : goal.loop-k-init
loop-k-init c = none_put _ _

pub put-requires : goal.put-requires
put-requires c = omega (arith, c.loop-k.invariant.puts.position)

pub loop-k-preserved : goal.loop-k-preserved
loop-k-preserved c =
    let one : c.loop-k.k ≡ suc (c.loop-k.k - 1) = omega arith in
    let room : c.put.new.self.at ≤ length c.put.new.self.buffer.now = omega arith in
    digit_put (subst (λ (k : ℕ). Putting c.args.self.now c.args.v k c.loop-k.self) one c.loop-k.invariant) c.digit.ensures c.put.ensures room

pub returns : goal.returns
returns c =
    let none : c.loop-k.k ≡ 0 = omega arith in
    all_put (subst (λ (k : ℕ). Putting c.args.self.now c.args.v k c.loop-k.self) none c.loop-k.invariant)
