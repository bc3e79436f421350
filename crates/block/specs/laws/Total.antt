-- The free total in the superblock: replaced, and what stays. Assumes nothing.
use Rattle.std.specs.Prelude.{◌≡◌, ℕ, ◌+◌, ◌^◌, ◌<◌, ◌≤◌, List, ◌++◌, length, take, drop}
use Rattle.std.proofs.Common.{sym, ap, ◌∙◌, inr, arith, take-append-drop}
use Rattle.block.specs.Bytes.{encode, put, Bytes}
use Rattle.block.specs.laws.Fields.{length-encode, field_bound, field_stands}
use Rattle.block.specs.laws.Writes.{put_def, length-put, drop-put_above, field_put, put_again, put_swap}
use Rattle.block.specs.Layout.{superblock, superblock_good, slot_exponent, stored_total, with_total, header_at}
use Rattle.block.specs.laws.Superblock.{superblock_kept}
use Rattle.block.specs.laws.Headers.{header_at-put_other}

-- a stored total has 32 bits
pub total_bound : (image : List ℕ) → Bytes image → stored_total image < 2 ^ 32
total_bound image b = field_bound image b 4 12

-- another one
module _ (image : List ℕ) (total : ℕ) (room : 16 ≤ length image) where
  -- lies in the superblock
  fits : 12 + length (encode 4 total) ≤ length image
  fits = omega (arith, length-encode 4 total)

  -- the length stays
  pub length-with_total : length (with_total image total) ≡ length image
  unfolding with_total
  length-with_total = length-put image 12 (encode 4 total) fits

  -- and whether the superblock is good, and its exponent
  pub with_total_opens : (superblock_good (with_total image total) ≡ superblock_good image) × (slot_exponent (with_total image total) ≡ slot_exponent image)
  unfolding with_total
  with_total_opens = superblock_kept image 12 (encode 4 total) fits (omega arith)

  -- every header
  pub with_total-header : (h : ℕ) → 16 ≤ h → header_at (with_total image total) h ≡ header_at image h
  unfolding with_total
  with_total-header h l = header_at-put_other image 12 (encode 4 total) h fits (inr (omega (arith, length-encode 4 total)))

  -- and all bytes behind the superblock
  pub with_total-behind : drop 16 (with_total image total) ≡ drop 16 image
  unfolding with_total
  with_total-behind = drop-put_above image 12 (encode 4 total) fits 16 (omega (arith, length-encode 4 total))

  -- it is read back
  pub stored_with_total : total < 2 ^ 32 → stored_total (with_total image total) ≡ total
  unfolding with_total
  stored_with_total l = field_put image 12 4 total (omega arith) l

  -- the last one counts
  pub with_total_again : (other : ℕ) → with_total (with_total image other) total ≡ with_total image total
  unfolding with_total
  with_total_again other =
      let n = length-encode 4 total in
      let m = length-encode 4 other in
      put_again image 12 (encode 4 other) (encode 4 total) (omega arith) fits

  -- before or after bytes are replaced behind the superblock
  pub with_total-put : (at : ℕ) (bs : List ℕ) → 16 ≤ at → at + length bs ≤ length image → put (with_total image total) at bs ≡ with_total (put image at bs) total
  unfolding with_total
  with_total-put at bs low l = put_swap image 12 (encode 4 total) at bs (omega (arith, length-encode 4 total)) l

-- the one that it has
pub with_total_own : (image : List ℕ) → 16 ≤ length image → Bytes image → with_total image (stored_total image) ≡ image
unfolding with_total
with_total_own image room b =
    let n : 12 + length (encode 4 (stored_total image)) ≡ 16 = omega (arith, length-encode 4 (stored_total image)) in
    put_def image 12 (encode 4 (stored_total image))
    ∙ ap (λ (k : ℕ). take 12 image ++ (encode 4 (stored_total image) ++ drop k image)) n
    ∙ ap (λ (q : List ℕ). take 12 image ++ q) (sym (field_stands image b 4 12 (omega arith)))
    ∙ take-append-drop 12 image

-- in a superblock
pub with_total_front : (image : List ℕ) (s L old total : ℕ) → take 16 image ≡ superblock s L old → take 16 (with_total image total) ≡ superblock s L total
unfolding with_total superblock encode put
with_total_front image s L old total e =
    ap (λ (x : List ℕ). take 16 (put x 12 (encode 4 total))) (sym (take-append-drop 16 image) ∙ ap (λ (q : List ℕ). q ++ drop 16 image) e)
