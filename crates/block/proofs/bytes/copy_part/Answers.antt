-- `block::bytes::copy_part`: what was read into the buffer is put from it. Assumes nothing.
use Rattle.std.proofs.Common.{◌≡◌, ◌+◌, ◌-◌, length, take, drop, ap, ◌∙◌, arith, length-drop, length-take-le, take_at}
use Rattle.block.proofs.Runs.{part_put}
use Rattle.block.proofs.bytes.copy_part.Goals as goal

pub returns : goal.returns
returns c =
    let a = c.args in
    let part = take a.k (drop a.from a.image.now) in
    let e : a.from + a.k - a.from ≡ a.k = omega arith in
    let long : length part ≡ a.k = length-take-le a.k _ (simp length-drop (omega arith)) in
    let read : c.copy_from_slice.new.self ≡ part = rw e at c.copy_from_slice.ensures.after in
    let same : c.copy_from_slice-2.new.self ≡ part = c.copy_from_slice-2.ensures.after ∙ take_at c.copy_from_slice.new.self _ a.k (ap length read ∙ long) ∙ read in
    rw same (part_put a.image.now part a.to (a.to + a.k) (ap (λ (n : _). a.to + n) long))
