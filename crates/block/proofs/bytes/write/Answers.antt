-- `block::bytes::write`: the first bytes of a number's 8 are its low ones. Assumes nothing.
use Rattle.std.proofs.Common.{◌≡◌, ◌+◌, ◌-◌, ℕ, ◌≤◌, ◌∙◌, sym, ap, take, take_at, arith}
use Rattle.std.proofs.Math.Nat.{div-div-eq-div-mul}
use Rattle.std.specs.Int.{w64, to_le_bytes}
use Rattle.block.specs.Bytes.{encode}
use Rattle.block.specs.laws.Fields.{length-encode, encode_add}
use Rattle.block.proofs.Runs.{part_put}
use Rattle.block.proofs.bytes.write.Goals as goal

-- the 8 bytes of a number
eight_bytes : (v : ℕ) → to_le_bytes w64 v ≡ encode 8 v
unfolding encode
eight_bytes v = simp div-div-eq-div-mul

-- its low ones
low_bytes : (w v : ℕ) → w ≤ 8 → take w (encode 8 v) ≡ encode w v
low_bytes w v l =
    let e : w + (8 - w) ≡ 8 = omega arith in
    ap (λ (k : ℕ). take w (encode k v)) (sym e) ∙ ap (take w) (encode_add w (8 - w) v) ∙ take_at (encode w v) _ w (length-encode w v)

pub returns : goal.returns
returns g c =
    let w = g.row.WIDTH in
    let a = c.args in
    let same : c.copy_from_slice.new.self ≡ encode w a.v =
    c.copy_from_slice.ensures.after ∙ ap (take w) (c.to_le_bytes.ensures ∙ eight_bytes a.v) ∙ low_bytes w a.v c.requires.0
    in
    rw same (part_put a.image.now (encode w a.v) a.at (a.at + w) (ap (λ (n : ℕ). a.at + n) (length-encode w a.v)))
