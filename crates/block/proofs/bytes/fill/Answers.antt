use Rattle.std.proofs.Common.{◌≡◌, ◌+◌, ◌-◌, length, replicate, sym, ◌∙◌, arith, length-drop, length-take-le, take_all}
use Rattle.std.proofs.lemmas.List.{length-replicate}
use Rattle.block.proofs.Runs.{part_put}
use Rattle.block.proofs.bytes.fill.Goals as goal

pub returns : goal.returns
returns c =
    let a = c.args in
    let l = c.loop-b in
    let k : a.at + a.n - a.at ≡ a.n = omega arith in
    let long : length l.b-items ≡ a.n = l.auto.b-items ∙ rw k (length-take-le a.n _ (simp length-drop (omega arith))) in
    let all : l.b-index ≡ a.n = omega (arith, c.loop-b-test.false, l.auto.b-index-end, long) in
    let set : l.b-items ≡ replicate a.n a.byte = sym (take_all a.n l.b-items (omega (arith, long))) ∙ rw all at l.invariant in
    rw set (part_put a.image.now (replicate a.n a.byte) a.at (a.at + a.n) (simp length-replicate))
