-- The superblock: taken apart, and how it is good. Assumes nothing.
use Rattle.std.specs.Prelude.{◌≡◌, ℕ, ◌+◌, ◌^◌, ◌<◌, ◌≤◌, true, false, cond, List, ◌++◌, length, ◌==◌, nat_le, slice_index, refl, None, Option, Some}
use Rattle.std.proofs.Common.{sym, ap, ◌∙◌, arith, length-append, lit<, le-leb, eq-eqb, leb-true, eqb-true}
use Rattle.block.specs.Bytes.{encode, field, put}
use Rattle.block.specs.laws.Fields.{decode-encode, field_ext}
use Rattle.block.specs.laws.Writes.{length-put, get_or-put_below}
use Rattle.block.specs.laws.Booleans.{by_bool, refuted, and_both, and_left, and_right}
use Rattle.block.specs.Layout.{superblock, slot_exponent, stored_total, good_exponent, good_length, superblock_good}

-- the superblock

-- a superblock has 16 bytes
pub length-superblock : (s L total : ℕ) → length (superblock s L total) ≡ 16
unfolding superblock encode
length-superblock s L total = refl

-- what a good superblock says
pub record Superblock (image : List ℕ) : Type 0 where
  pub long : 16 ≤ length image
  pub own_length : field image 0 4 ≡ 16
  pub own_kind : field image 4 2 ≡ 3
  pub exponent_low : 6 ≤ slot_exponent image
  pub exponent_high : slot_exponent image ≤ 15
  pub length_low : 64 ≤ length image
  pub length_high : length image ≤ 2 ^ 30
  pub has_length : field image 8 4 ≡ length image

-- taken apart
pub superblock_parts : (image : List ℕ) → superblock_good image ≡ true → Superblock image
unfolding superblock_good
superblock_parts image e =
    let r1 = and_right (nat_le 16 (length image)) _ e in
    let r2 = and_right (field image 0 4 == 16) _ r1 in
    let r3 = and_right (field image 4 2 == 3) _ r2 in
    let r4 = and_right (good_exponent (slot_exponent image)) _ r3 in
    let r5 = and_right (good_length (field image 8 4)) _ r4 in
    let x = and_left (good_exponent (slot_exponent image)) _ r3 in
    let y = and_left (good_length (field image 8 4)) _ r4 in
    let same : field image 8 4 ≡ length image = eqb-true _ _ r5 in
    let low : 64 ≤ field image 8 4 = leb-true _ _ (and_left _ _ y) in
    let high : field image 8 4 ≤ 2 ^ 30 = leb-true _ _ (and_right (nat_le 64 (field image 8 4)) _ y) in
    record {
      long = leb-true _ _ (and_left _ _ e);
      own_length = eqb-true _ _ (and_left _ _ r1);
      own_kind = eqb-true _ _ (and_left _ _ r2);
      exponent_low = leb-true _ _ (and_left _ _ x);
      exponent_high = leb-true _ _ (and_right (nat_le 6 (slot_exponent image)) _ x);
      length_low = omega arith;
      length_high = omega arith;
      has_length = same;
    }

-- put together
pub superblock_good_lem : (image : List ℕ) → Superblock image → superblock_good image ≡ true
unfolding superblock_good
superblock_good_lem image p =
    let low : 64 ≤ field image 8 4 = omega arith in
    let high : field image 8 4 ≤ 2 ^ 30 = omega arith in
    and_both _ _ (le-leb _ _ p.long)
    (and_both _ _ (eq-eqb _ _ p.own_length)
    (and_both _ _ (eq-eqb _ _ p.own_kind)
    (and_both _ _ (and_both _ _ (le-leb _ _ p.exponent_low) (le-leb _ _ p.exponent_high))
    (and_both _ _ (and_both _ _ (le-leb _ _ low) (le-leb _ _ high)) (eq-eqb _ _ p.has_length)))))

-- the slot exponent of a superblock
pub exponent_front : (s L total : ℕ) (rest : List ℕ) → s < 2 ^ 16 → slot_exponent (superblock s L total ++ rest) ≡ s
unfolding superblock field encode
exponent_front s L total rest h = decode-encode 2 s h

-- and its free total
pub total_front : (s L total : ℕ) (rest : List ℕ) → total < 2 ^ 32 → stored_total (superblock s L total ++ rest) ≡ total
unfolding superblock field encode
total_front s L total rest h = decode-encode 4 total h

superblock-fields : (s L total : ℕ) (rest : List ℕ) → L < 2 ^ 32
    → (field (superblock s L total ++ rest) 0 4 ≡ 16) × (field (superblock s L total ++ rest) 4 2 ≡ 3) × (field (superblock s L total ++ rest) 8 4 ≡ L)
unfolding superblock field encode
superblock-fields s L total rest h = (decode-encode 4 16 (lit< tt), decode-encode 2 3 (lit< tt), decode-encode 4 L h)

-- an image that begins with its superblock
pub superblock_front : (s L total : ℕ) (rest : List ℕ) → 16 + length rest ≡ L → 6 ≤ s → s ≤ 15 → 64 ≤ L → L ≤ 2 ^ 30
    → superblock_good (superblock s L total ++ rest) ≡ true
superblock_front s L total rest n a b c d =
    let image : List ℕ = superblock s L total ++ rest in
    let f = superblock-fields s L total rest (omega arith) in
    let x : slot_exponent image ≡ s = exponent_front s L total rest (omega arith) in
    let m : length image ≡ L = length-append (superblock s L total) rest ∙ ap (λ (k : ℕ). k + length rest) (length-superblock s L total) ∙ n in
    superblock_good_lem image
    (record {
      long = omega arith;
      own_length = f.0;
      own_kind = f.1;
      exponent_low = omega arith;
      exponent_high = omega arith;
      length_low = omega arith;
      length_high = omega arith;
      has_length = f.2 ∙ sym m;
    })

-- the first 12 bytes and the length decide
pub superblock-same : (a b : List ℕ) → length a ≡ length b → ((k : ℕ) → k < 12 → slice_index a k ≡ slice_index b k) → (superblock_good a ≡ superblock_good b) × (slot_exponent a ≡ slot_exponent b)
unfolding superblock_good
superblock-same a b l e =
    let f : (at w : ℕ) → at + w ≤ 12 → field a at w ≡ field b at w = λ at w h. field_ext a b w at (λ k p q. e k (omega arith)) in
    let f0 = f 0 4 (omega arith) in
    let f4 = f 4 2 (omega arith) in
    let f6 = f 6 2 (omega arith) in
    let f8 = f 8 4 (omega arith) in
    (rw (l, f0, f4, f6, f8) refl, f6)

-- bytes replaced behind these, in the free total or behind the superblock
pub superblock_kept : (image : List ℕ) (at : ℕ) (bs : List ℕ) → at + length bs ≤ length image → 12 ≤ at → (superblock_good (put image at bs) ≡ superblock_good image) × (slot_exponent (put image at bs) ≡ slot_exponent image)
superblock_kept image at bs fits low =
    superblock-same (put image at bs) image (length-put image at bs fits) (λ k l. get_or-put_below image at bs fits k (omega arith))

-- what `open` answers
unfoldable pub opened : List ℕ → Option ℕ
opened image = cond (superblock_good image) (Some (slot_exponent image)) None

-- what opening answers
pub opened_good : (image : List ℕ) → superblock_good image ≡ true → opened image ≡ Some (slot_exponent image)
unfolding opened
opened_good image e = simp e

pub opened-refused : (image : List ℕ) → superblock_good image ≡ false → opened image ≡ None
unfolding opened
opened-refused image e = simp e

pub opened_bad : (image : List ℕ) → (Superblock image → ⊥) → opened image ≡ None
opened_bad image n = opened-refused image (refuted (superblock_good image) (λ e. n (superblock_parts image e)))

-- and what its answer says
pub opened_is_good : (image : List ℕ) (s : ℕ) → opened image ≡ Some s → (superblock_good image ≡ true) × (s ≡ slot_exponent image)
opened_is_good image s e =
    by_bool (superblock_good image)
    (λ t. let x : opened image ≡ Some (slot_exponent image) = opened_good image t in (t, (cc)))
    (λ t. let x : opened image ≡ None = opened-refused image t in cc)

pub opened_is_bad : (image : List ℕ) → opened image ≡ None → superblock_good image ≡ false
opened_is_bad image e =
    by_bool (superblock_good image)
    (λ t. let x : opened image ≡ Some (slot_exponent image) = opened_good image t in cc)
    (λ t. t)
