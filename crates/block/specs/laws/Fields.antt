-- Little-endian numbers in bytes: encoding, decoding, reading. Assumes nothing.
use Rattle.std.specs.Prelude.{◌≡◌, ℕ, zero, suc, ◌+◌, ◌*◌, ◌/◌, ◌%◌, ◌^◌, ◌<◌, ◌≤◌, List, [], ◌∷◌, ◌++◌, length, take, drop, ◌==◌, nat_lt, slice_index, slice_index_or, refl}
use Rattle.std.proofs.Common.{sym, ap, ◌∙◌, zero-add, suc-add, div-one, le-div_iff_mul-le, one-mul, mul_assoc, mul-suc, pow-suc, add-suc, add-zero, arith, pow_pos, pow-add, shr_lt, take_at, drop-drop, drop-cons, ltb-true, ltb-false, eq-eqb, ne_eqb}
use Rattle.std.proofs.Math.Nat.{div-div-eq-div-mul, pow-succ'}
use Rattle.std.proofs.Math.Seq.{take-nil}
use Rattle.block.specs.Bytes.{encode, decode, field, Bytes}
use Rattle.block.specs.laws.Booleans.{by_bool}

-- encoding

-- as many bytes as the width says
pub length-encode : (w v : ℕ) → length (encode w v) ≡ w
unfolding encode
length-encode zero v = refl
length-encode (suc w) v = ap suc (length-encode w (v / 256))

-- in two parts: the low bytes, and the others
pub encode_add : (v w n : ℕ) → encode (v + w) n ≡ encode v n ++ encode w (n / 256 ^ v)
unfolding encode
encode_add zero w n = rw (zero-add w, div-one n)
encode_add (suc v) w n =
    rw (suc-add v w, pow-succ' 256 v, ← div-div-eq-div-mul n 256 (256 ^ v)) (ap (λ (l : List ℕ). n % 256 ∷ l) (encode_add v w (n / 256)))

-- a number that fits is read back
pub decode-encode : (w v : ℕ) → v < 256 ^ w → decode (encode w v) ≡ v
unfolding encode decode
decode-encode zero v h = omega arith
decode-encode (suc w) v h =
    let p : v / 256 < 256 ^ w = omega (arith, rw pow-suc at h) in
    rw (decode-encode w (v / 256) p) (omega arith)

-- numbers that fit

-- so many bytes, in bits
bytes_bits : (w : ℕ) → 256 ^ w ≡ 2 ^ (8 * w)
bytes_bits zero = refl
bytes_bits (suc w) = pow-suc 256 w ∙ ap (λ (n : ℕ). n * 256) (bytes_bits w) ∙ sym (pow-add 2 (8 * w) 8) ∙ ap (λ (k : ℕ). 2 ^ k) (sym (mul-suc 8 w))

-- a number fits that many bytes exactly where nothing is left of it behind them
pub fits_shifted : (w v : ℕ) → (v / 2 ^ (8 * w) == 0) ≡ nat_lt v (256 ^ w)
fits_shifted w v =
    let n : ℕ = 2 ^ (8 * w) in
    rw (bytes_bits w)
    (by_bool (nat_lt v n)
    (λ e. eq-eqb (v / n) 0 (omega (arith, shr_lt {n = v} 0 (8 * w) (rw zero-add (ltb-true v n e)))) ∙ sym e)
    (λ e.
    let l : 1 * n ≤ v = rw one-mul (ltb-false v n e) in
    let some : 1 ≤ v / n = (le-div_iff_mul-le (pow_pos (8 * w))).1 l in
    ne_eqb (v / n) 0 (λ z. omega (arith, z, some)) ∙ sym e))

-- fields

-- a field is what its bytes are
pub field_bytes_lem : (image : List ℕ) (at w : ℕ) → field image at w ≡ decode (take w (drop at image))
unfolding field
field_bytes_lem image at w = refl

-- a field of no bytes
pub field_zero : (image : List ℕ) (at : ℕ) → field image at 0 ≡ 0
unfolding field decode
field_zero image at = refl

-- a field is its first byte and the field behind that
pub field_step : (image : List ℕ) (at w : ℕ) → field image at (suc w) ≡ slice_index image at + 256 * field image (suc at) w
unfolding field decode
field_step [] zero w = rw (take-nil w)
field_step [] (suc at) w = rw (take-nil w)
field_step (b ∷ bs) zero w = refl
field_step (b ∷ bs) (suc at) w = field_step bs at w

-- a field of one byte is that byte
pub field_one : (image : List ℕ) (at : ℕ) → field image at 1 ≡ slice_index image at
field_one image at = omega (arith, field_step image at 0, field_zero image (suc at))

-- a field in two parts: its low bytes, and the others
pub field_add : (image : List ℕ) (v w at : ℕ) → field image at (v + w) ≡ field image at v + 256 ^ v * field image (at + v) w
field_add image zero w at = rw (zero-add w, field_zero image at, add-zero at, one-mul (field image at w)) (omega arith)
field_add image (suc v) w at =
    let rest : ℕ = field image (suc (at + v)) w in
    let ih : field image (suc at) (v + w) ≡ field image (suc at) v + 256 ^ v * rest = rw (suc-add at v) at (field_add image v w (suc at)) in
    rw (suc-add v w, field_step image at (v + w), field_step image at v, add-suc at v, pow-succ' 256 v, mul_assoc 256 (256 ^ v) rest, ih) (omega arith)

-- a field of bytes is below that power of 256
pub field_bound : (image : List ℕ) → Bytes image → (w at : ℕ) → field image at w < 256 ^ w
field_bound image h zero at = rw (field_zero image at) (omega arith)
field_bound image h (suc w) at = omega (arith, pow-suc 256 w, field_step image at w, field_bound image h w (suc at), h at)

-- bytes are the number in them, encoded
pub field_stands :
    (image : List ℕ) → Bytes image → (w at : ℕ) → at + w ≤ length image → drop at image ≡ encode w (field image at w) ++ drop (at + w) image
unfolding encode
field_stands image h zero at l = ap (λ (n : ℕ). drop n image) (sym (add-zero at))
field_stands image h (suc w) at l =
    let b : ℕ = slice_index_or image at 0 in
    let f : ℕ = field image (suc at) w in
    let low : (b + 256 * f) % 256 ≡ b = omega (arith, h at) in
    let high : (b + 256 * f) / 256 ≡ f = omega (arith, h at) in
    let ends : suc at + w ≡ at + suc w = omega arith in
    drop-cons image at 0 (omega arith)
    ∙ ap (λ (r : List ℕ). b ∷ r) (field_stands image h w (suc at) (omega arith) ∙ ap (λ (n : ℕ). encode w f ++ drop n image) ends)
    ∙ rw (field_step image at w, low, high) refl

-- a field read in two parts: `low`, its v low bytes, and `high`, the w others
module _ (image : List ℕ) (v w at low high : ℕ) (l : low ≡ field image at v) (h : high ≡ field image (at + v) w) where
  pub parts_are : low + 256 ^ v * high ≡ field image at (v + w)
  parts_are = cc (field_add image v w at)

  -- so the sum fits that many bytes
  pub parts_fit : Bytes image → low + 256 ^ v * high < 256 ^ (v + w)
  parts_fit b = rw parts_are (field_bound image b (v + w) at)

-- equal bytes give equal fields
pub field_ext : (a b : List ℕ) (w at : ℕ) → ((k : ℕ) → at ≤ k → k < at + w → slice_index a k ≡ slice_index b k) → field a at w ≡ field b at w
field_ext a b zero at h = field_zero a at ∙ sym (field_zero b at)
field_ext a b (suc w) at h =
    omega (arith, field_step a at w, field_step b at w, h at (omega arith) (omega arith), field_ext a b w (suc at) (λ k l m. h k (omega arith) (omega arith)))

-- a field of what stands from h on
pub field-drop : (image : List ℕ) (h i w : ℕ) → field image (h + i) w ≡ field (drop h image) i w
unfolding field
field-drop image h i w = rw (drop-drop i h image)

-- a field that is the first of a list of bytes
pub field_front : (bs q : List ℕ) (w : ℕ) → length bs ≡ w → field (bs ++ q) 0 w ≡ decode bs
unfolding field
field_front bs q w e = ap decode (take_at bs q w e)
