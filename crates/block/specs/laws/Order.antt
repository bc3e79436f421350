-- How runs of bytes stand to each other: an order.
-- In order: by the first byte; swapped; transitive; as the library compares slices; big-endian numbers; by several bytes at once. Assumes nothing.
use Rattle.std.specs.Prelude.{◌≡◌, ℕ, zero, suc, ◌+◌, ◌-◌, ◌*◌, ◌^◌, ◌<◌, ◌≤◌, true, ◌⊎◌, List, [], ◌∷◌, length, take, drop, pos, neg_ℤ, ◌==◌, int_le, nat_lt, slice_index, slice_index_or, refl}
use Rattle.std.proofs.Common.{sym, ap, ◌∙◌, inl, inr, ⊎_elim, zero-add, add-zero, mul-add, mul-suc, mul_assoc, mul_comm, mul-le-mul_left, pow-suc, pow-add}
use Rattle.std.proofs.Math.Nat.{suc-add, add-suc, sub-zero}
use native.Mathlib.Omega.{arith}
use Rattle.std.proofs.Math.Seq.{drop-cons}
use borrow.Author.Tests.{eq-eqb, ne_eqb, eqb-true, eqb-false, lt-ltb, le-ltb, ltb-true, ltb-false}
use Rattle.std.specs.Ordering.{nat_cmp}
use Rattle.std.specs.Cmp.Lexicographic.{slice_cmp}
use Rattle.block.specs.Bytes.{field, Bytes}
use Rattle.block.specs.Order.{compare_bytes, sign}
use Rattle.block.specs.laws.Booleans.{by_bool, true_false}
use Rattle.block.specs.laws.Fields.{field_one, field_step}
use Rattle.std.specs.declared.cmp.Ordering.{Ordering}
use Rattle.std.specs.declared.cmp.Ordering.TheVariants.{Less, Equal, Greater}

-- by the first byte

module _ (a b : ℕ) (rest bs : List ℕ) where
  compare_same : a ≡ b → compare_bytes (a ∷ rest) (b ∷ bs) ≡ compare_bytes rest bs
  unfolding compare_bytes
  compare_same e = rw (compare_bytes, eq-eqb a b e)

  compare_less : a < b → compare_bytes (a ∷ rest) (b ∷ bs) ≡ Less
  unfolding compare_bytes
  compare_less l = rw (compare_bytes, ne_eqb a b (λ e. omega arith), lt-ltb a b l)

  compare_greater : b < a → compare_bytes (a ∷ rest) (b ∷ bs) ≡ Greater
  unfolding compare_bytes
  compare_greater l = rw (compare_bytes, ne_eqb a b (λ e. omega arith), le-ltb a b (omega arith))

-- by how two numbers stand to each other
trichotomy : {P : Type 0} (a b : ℕ) → (a < b → P) → (a ≡ b → P) → (b < a → P) → P
trichotomy a b l e g =
    by_bool (a == b)
    (λ t. e (eqb-true a b t))
    (λ t. by_bool (nat_lt a b) (λ u. l (ltb-true a b u)) (λ u. g (omega (arith, ltb-false a b u, eqb-false a b t))))

-- operands swapped
pub compare_swapped : (xs ys : List ℕ) → sign (compare_bytes ys xs) ≡ neg_ℤ (sign (compare_bytes xs ys))
unfolding compare_bytes
compare_swapped [] [] = refl
compare_swapped [] (y ∷ ys) = refl
compare_swapped (x ∷ xs) [] = refl
compare_swapped (x ∷ xs) (y ∷ ys) =
    trichotomy x y
    (λ l. ap sign (compare_greater y x ys xs l) ∙ sym (ap (λ (o : Ordering). neg_ℤ (sign o)) (compare_less x y xs ys l)))
    (λ e. ap sign (compare_same y x ys xs (sym e)) ∙ compare_swapped xs ys ∙ sym (ap (λ (o : Ordering). neg_ℤ (sign o)) (compare_same x y xs ys e)))
    (λ l. ap sign (compare_less y x ys xs l) ∙ sym (ap (λ (o : Ordering). neg_ℤ (sign o)) (compare_greater x y xs ys l)))

-- the first run is not above the second
abbrev pub NotAbove : List ℕ → List ℕ → Type 0
NotAbove xs ys = int_le (sign (compare_bytes xs ys)) (pos 0) ≡ true

-- transitive

not_above : (xs ys : List ℕ) (o : Ordering) → compare_bytes xs ys ≡ o → int_le (sign o) (pos 0) ≡ true → NotAbove xs ys
not_above xs ys o e l = ap (λ (p : Ordering). int_le (sign p) (pos 0)) e ∙ l

-- by the first byte
first_bytes : (x y : ℕ) (xs ys : List ℕ) → NotAbove (x ∷ xs) (y ∷ ys) → (x < y) ⊎ ((x ≡ y) × NotAbove xs ys)
first_bytes x y xs ys n =
    trichotomy x y
    (λ l. inl l)
    (λ e. inr (e, not_above xs ys _ (sym (compare_same x y xs ys e)) n))
    (λ l. absurd (true_false n (ap (λ (o : Ordering). int_le (sign o) (pos 0)) (compare_greater x y xs ys l))))

less_not_above : (x y : ℕ) (xs ys : List ℕ) → x < y → NotAbove (x ∷ xs) (y ∷ ys)
less_not_above x y xs ys l = not_above (x ∷ xs) (y ∷ ys) Less (compare_less x y xs ys l) refl

pub compare_transitive : (xs ys zs : List ℕ) → length xs ≡ length ys → length ys ≡ length zs → NotAbove xs ys → NotAbove ys zs → NotAbove xs zs
unfolding compare_bytes
compare_transitive [] ys zs d e p q = refl
compare_transitive (x ∷ xs) [] zs d e p q = absurd (omega arith)
compare_transitive (x ∷ xs) (y ∷ ys) [] d e p q = absurd (omega arith)
compare_transitive (x ∷ xs) (y ∷ ys) (z ∷ zs) d e p q =
    let ih = compare_transitive xs ys zs (omega arith) (omega arith) in
    ⊎_elim
    (λ (l : x < y). ⊎_elim
    (λ (m : y < z). less_not_above x z xs zs (omega arith))
    (λ (m : (y ≡ z) × NotAbove ys zs). less_not_above x z xs zs (omega (arith, m.0)))
    (first_bytes y z ys zs q))
    (λ (l : (x ≡ y) × NotAbove xs ys). ⊎_elim
    (λ (m : y < z). less_not_above x z xs zs (omega (arith, l.0)))
    (λ (m : (y ≡ z) × NotAbove ys zs).
    not_above (x ∷ xs) (z ∷ zs) (compare_bytes xs zs) (compare_same x z xs zs (l.0 ∙ m.0)) (ih l.1 m.1))
    (first_bytes y z ys zs q))
    (first_bytes x y xs ys p)

-- the library's order of lists, where they are of one length
pub compare-is : (xs ys : List ℕ) → length xs ≡ length ys → slice_cmp nat_cmp xs ys ≡ compare_bytes xs ys
unfolding compare_bytes
compare-is [] [] e = refl
compare-is [] (y ∷ ys) e = absurd (omega arith)
compare-is (x ∷ xs) [] e = absurd (omega arith)
compare-is (x ∷ xs) (y ∷ ys) e =
    trichotomy x y
    (λ l. rw (lt-ltb x y l) (sym (compare_less x y xs ys l)))
    (λ l. rw (le-ltb x y (omega arith), eq-eqb x y l) (compare-is xs ys (omega arith) ∙ sym (compare_same x y xs ys l)))
    (λ l. rw (le-ltb x y (omega arith), ne_eqb x y (λ q. omega arith)) (sym (compare_greater x y xs ys l)))

-- Big-endian numbers.

-- the number in `width` bytes at `at`, big-endian: of two such numbers the one whose first differing byte is lower is the lower
unfoldable pub big_field : List ℕ → ℕ → ℕ → ℕ
big_field image at zero = 0
big_field image at (suc width) = big_field image (suc at) width + 256 ^ width * slice_index image at

-- one byte is the same number in either order
pub big_one : (image : List ℕ) (at : ℕ) {x : ℕ} → x ≡ field image at 1 → x ≡ big_field image at 1
unfolding big_field
big_one image at e = omega (arith, field_one image at)

-- and the same bytes are the same number in either
pub same_big : (image : List ℕ) → Bytes image → (w a b : ℕ) → field image a w ≡ field image b w → big_field image a w ≡ big_field image b w
unfolding big_field
same_big image h zero a b e = refl
same_big image h (suc w) a b e =
    let both : slice_index_or image a 0 + 256 * field image (suc a) w ≡ slice_index image b + 256 * field image (suc b) w =
    sym (field_step image a w) ∙ e ∙ field_step image b w
    in
    let first : slice_index_or image a 0 ≡ slice_index_or image b 0 = omega (arith, h a, h b) in
    let rest : big_field image (suc a) w ≡ big_field image (suc b) w = same_big image h w (suc a) (suc b) (omega (arith, h a, h b)) in
    rw (first, rest)

-- a number in two parts: its last bytes, which are the low ones, and the others
big_add : (image : List ℕ) (v w at : ℕ) → big_field image at (v + w) ≡ big_field image (at + v) w + 256 ^ w * big_field image at v
unfolding big_field
big_add image zero w at = rw (zero-add w, add-zero at) (omega arith)
big_add image (suc v) w at =
    let b : ℕ = slice_index_or image at 0 in
    let high : 256 ^ (v + w) * b ≡ 256 ^ w * (256 ^ v * b) = rw (pow-add 256 v w, mul_comm (256 ^ v) (256 ^ w)) (mul_assoc (256 ^ w) (256 ^ v) b) in
    let ih : big_field image (suc at) (v + w) ≡ big_field image (suc (at + v)) w + 256 ^ w * big_field image (suc at) v =
    rw (suc-add at v) at (big_add image v w (suc at))
    in
    rw (suc-add v w, add-suc at v, mul-add) (omega arith)

-- a number of bytes is below that power of 256
big_bound : (image : List ℕ) → Bytes image → (w at : ℕ) → big_field image at w < 256 ^ w
unfolding big_field
big_bound image h zero at = omega arith
big_bound image h (suc w) at =
    omega (arith, pow-suc 256 w, mul-le-mul_left (256 ^ w) (h at), mul-suc (256 ^ w) (slice_index image at), big_bound image h w (suc at))

-- a number read in two parts: `low`, its w last bytes, and `high`, the v others
module _ (image : List ℕ) (v w at low high : ℕ) (l : low ≡ big_field image (at + v) w) (h : high ≡ big_field image at v) where
  pub big_parts_are : low + 256 ^ w * high ≡ big_field image at (v + w)
  big_parts_are = cc (big_add image v w at)

  -- so the sum fits that many bytes
  pub big_parts_fit : Bytes image → low + 256 ^ w * high < 256 ^ (v + w)
  big_parts_fit b = rw big_parts_are (big_bound image b (v + w) at)

-- by several bytes at once

-- two numbers decide how runs stand to each other: as they do themselves, or where they are equal as what is left of the runs
pub record Decide (x y : ℕ) (runs left : Ordering) : Type 0 where
  pub below : x < y → runs ≡ Less
  pub equal : x ≡ y → runs ≡ left
  pub above : y < x → runs ≡ Greater

-- the first bytes do
first_decide : (a b : ℕ) (rest bs : List ℕ) → Decide a b (compare_bytes (a ∷ rest) (b ∷ bs)) (compare_bytes rest bs)
first_decide a b rest bs = record { below = compare_less a b rest bs; equal = compare_same a b rest bs; above = compare_greater a b rest bs }

-- numbers in two parts are ordered by the high ones, if these differ
by_high : (p x y r s : ℕ) → r < p → x < y → r + p * x < s + p * y
by_high p x y r s h l = omega (arith, mul-suc p x, mul-le-mul_left p l)

-- two pairs of numbers one after the other decide, and so do their sums, if those of the second pair are below p
sums_decide : {x y r s p : ℕ} {runs left rest : Ordering}
    → r < p → s < p → Decide x y runs left → Decide r s left rest → Decide (r + p * x) (s + p * y) runs rest
sums_decide {x} {y} {r} {s} {p} f g d e =
    trichotomy x y
    (λ l. let m = by_high p x y r s f l in record { below = λ _. d.below l; equal = λ q. absurd (omega arith); above = λ q. absurd (omega arith) })
    (λ l.
    let m : p * x ≡ p * y = ap (λ (k : ℕ). p * k) l in
    let k = d.equal l in
    record { below = λ q. k ∙ e.below (omega arith); equal = λ q. k ∙ e.equal (omega arith); above = λ q. k ∙ e.above (omega arith) })
    (λ l. let m = by_high p y x s r g l in record { below = λ q. absurd (omega arith); equal = λ q. absurd (omega arith); above = λ _. d.above l })

-- how the n bytes at a stand to the n at b
abbrev pub compare_runs : List ℕ → ℕ → ℕ → ℕ → Ordering
compare_runs image a b n = compare_bytes (take n (drop a image)) (take n (drop b image))

-- and after the first i of them
abbrev pub compare_after : List ℕ → ℕ → ℕ → ℕ → ℕ → Ordering
compare_after image a b n i = compare_runs image (a + i) (b + i) (n - i)

module _ (image : List ℕ) (a b n : ℕ) where
  -- after none of them
  pub compare-start : compare_runs image a b n ≡ compare_after image a b n 0
  compare-start = simp (sub-zero, add-zero)

  -- after all of them
  pub compare-end : (i : ℕ) → n ≤ i → compare_after image a b n i ≡ Equal
  unfolding compare_bytes
  compare-end i l = let e : n - i ≡ 0 = omega arith in rw e

  module _ (h : Bytes image) (f : a + n ≤ length image) (g : b + n ≤ length image) where
    -- their next w bytes decide how what is left of them stands to each other
    big_decide : (w i : ℕ) → i + w ≤ n
        → Decide (big_field image (a + i) w) (big_field image (b + i) w) (compare_after image a b n i) (compare_after image a b n (i + w))
    unfolding big_field
    big_decide zero i l = rw (add-zero i) (record { below = λ q. absurd (omega arith); equal = λ _. refl; above = λ q. absurd (omega arith) })
    big_decide (suc w) i l =
        let e : n - i ≡ suc (n - suc i) = omega arith in
        let next = rw (add-suc a i, add-suc b i) at (big_decide w (suc i) (omega arith)) in
        rw (e, drop-cons image (a + i) 0 (omega arith), drop-cons image (b + i) 0 (omega arith), add-suc i w, ← suc-add i w)
        (sums_decide (big_bound image h w (suc (a + i))) (big_bound image h w (suc (b + i))) (first_decide _ _ _ _) next)

    -- how they stand to each other, where they do so as after their first i bytes
    pub compare_turn : (w i : ℕ) → i + w ≤ n → {x y : ℕ} → x ≡ big_field image (a + i) w → y ≡ big_field image (b + i) w
        → compare_runs image a b n ≡ compare_after image a b n i → Decide x y (compare_runs image a b n) (compare_after image a b n (i + w))
    compare_turn w i l p q e = rw (p, q, e) (big_decide w i l)
