-- `block::order::compare_runs`: both runs are of n bytes. Assumes nothing.
use Rattle.std.proofs.Common.{◌∙◌, ◌≡◌, ◌+◌, ◌-◌, length, take, drop, arith, length-drop, length-take-le, sym}
use Rattle.block.specs.laws.Order.{compare-is}
use Rattle.block.proofs.order.compare_runs.Goals as goal

pub returns : goal.returns
returns c =
    let s = c.args in
    let e : s.a + s.n - s.a ≡ s.n = omega arith in
    let f : s.b + s.n - s.b ≡ s.n = omega arith in
    let m : length (take s.n (drop s.a s.image.now)) ≡ s.n = length-take-le s.n _ (simp length-drop (omega arith)) in
    let n : length (take s.n (drop s.b s.image.now)) ≡ s.n = length-take-le s.n _ (simp length-drop (omega arith)) in
    rw (e, f) at c.cmp.ensures ∙ compare-is (take s.n (drop s.a s.image.now)) (take s.n (drop s.b s.image.now)) (m ∙ sym n)
