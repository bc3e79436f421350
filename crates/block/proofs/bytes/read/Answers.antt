-- `block::bytes::read`: zero bytes behind a number do not change it. Assumes nothing.
use Rattle.std.proofs.Common.{◌≡◌, ◌+◌, ◌-◌, ◌≤◌, ℕ, zero, suc, List, [], ◌∷◌, ◌++◌, length, take, drop, replicate, refl, ◌∙◌, arith, length-take-le}
use Rattle.std.proofs.lemmas.List.{drop-replicate}
use Rattle.std.specs.Int.{w64, from_le_bytes}
use Rattle.block.specs.Bytes.{decode, field}
use Rattle.block.specs.laws.Fields.{field_step, field_zero}
use Rattle.block.proofs.bytes.read.Goals as goal

-- the number in 8 bytes
eight_bytes : (bs : List ℕ) → from_le_bytes w64 bs ≡ field bs 0 8
eight_bytes bs =
    omega (arith, field_step bs 0 7, field_step bs 1 6, field_step bs 2 5, field_step bs 3 4, field_step bs 4 3, field_step bs 5 2, field_step bs 6 1, field_step bs 7 0, field_zero bs 8)

-- a number with zero bytes behind it
padded : (bs : List ℕ) (n k : ℕ) → length bs ≤ k → decode (take k (bs ++ replicate n 0)) ≡ decode bs
unfolding decode
padded [] n zero l = refl
padded [] zero (suc k) l = refl
padded [] (suc n) (suc k) l = rw (padded [] n k (omega arith)) refl
padded (b ∷ bs) n zero l = absurd (omega arith)
padded (b ∷ bs) n (suc k) l = rw (padded bs n k (omega arith)) refl

-- the first of 8 bytes, of which the others are zero
read_part : (bs : List ℕ) (w : ℕ) → length bs ≤ 8 → from_le_bytes w64 (bs ++ drop w (replicate 8 0)) ≡ decode bs
unfolding field
read_part bs w l = eight_bytes (bs ++ drop w (replicate 8 0)) ∙ rw (drop-replicate {X = ℕ} w 8 0) (padded bs (8 - w) 8 l)

pub returns : goal.returns
unfolding field
returns g c =
    let w = g.row.WIDTH in
    let a = c.args in
    let e : a.at + w - a.at ≡ w = omega arith in
    c.from_le_bytes.ensures ∙ read_part c.copy_from_slice.new.self w (rw (c.copy_from_slice.ensures.len, length-take-le {A = ℕ} w (replicate 8 0) c.requires.0) c.requires.0) ∙ rw (c.copy_from_slice.ensures.after, e) refl
