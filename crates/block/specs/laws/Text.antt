-- Texts: their length, and a search that passes bytes without a zero among them. Assumes nothing.
use Rattle.std.specs.Prelude.{◌≡◌, ℕ, zero, suc, ◌+◌, ◌-◌, ◌<◌, ◌≤◌, Bool, false, ◌||◌, List, [], ◌∷◌, ◌++◌, length, take, drop, ◌==◌, ◌≢◌, slice_index, refl, None, Option, Some}
use Rattle.std.proofs.Common.{sym, ◌∙◌, zero-add, suc-add, add-zero, add-suc, drop-cons, drop-drop, take-add, length-drop, length-take-le, eq-eqb, ne_eqb, eqb-true, arith}
use Rattle.std.proofs.Math.Path.{ap}
use Rattle.std.proofs.Math.Bool.{or-false, or_assoc}
use mathlib.Mathlib.Data.Bool.Basic.{or-eq-false-eq-eq-false-and-eq-false}
use Rattle.std.proofs.Math.Nat.{sub-zero}
use Rattle.std.proofs.lemmas.Bool.{eqb-false}
use Rattle.std.specs.List.{list_any, position_from}
use Rattle.block.specs.Bytes.{field}
use Rattle.block.specs.Text.{text_from, text_of}
use Rattle.block.specs.laws.Booleans.{by_bool}
use Rattle.block.specs.laws.Fields.{field_one}

-- a text, by its first byte

text_ends : (n b : ℕ) (bs : List ℕ) → b ≡ 0 → text_from n (b ∷ bs) ≡ Some n
unfolding text_from
text_ends n b bs e = rw (text_from, eq-eqb b 0 e)

text_goes_on : (n b : ℕ) (bs : List ℕ) → (b ≢ 0) → text_from n (b ∷ bs) ≡ text_from (n + 1) bs
unfolding text_from
text_goes_on n b bs e = rw (text_from, ne_eqb b 0 e)

-- a text is the whole of what follows no byte
text_whole : (bs : List ℕ) → text_of bs ≡ text_from 0 bs
unfolding text_of
text_whole bs = refl

-- its zero byte is one of the list's
text_from_bound : (n : ℕ) (bs : List ℕ) (m : ℕ) → text_from n bs ≡ Some m → m < n + length bs
unfolding text_from
text_from_bound n [] m e = cc
text_from_bound n (b ∷ bs) m e =
    by_bool (b == 0)
    (λ t. let q : n ≡ m = cc (text_ends n b bs (eqb-true b 0 t)) in omega arith)
    (λ t. omega (arith, text_from_bound (n + 1) bs m (sym (text_goes_on n b bs (eqb-false b 0 t)) ∙ e)))

pub text_bound : (bs : List ℕ) (m : ℕ) → text_of bs ≡ Some m → m < length bs
text_bound bs m e = omega (arith, text_from_bound 0 bs m (sym (text_whole bs) ∙ e))

-- A search for the zero byte.

-- whether a byte is zero
abbrev pub is_zero : ℕ → Bool
is_zero b = b == 0

-- bytes without a zero among them are passed
text_passes : (n : ℕ) (xs ys : List ℕ) → list_any is_zero xs ≡ false → text_from n (xs ++ ys) ≡ text_from (n + length xs) ys
text_passes n [] ys z = rw (add-zero n)
text_passes n (x ∷ xs) ys z =
    let none = (or-eq-false-eq-eq-false-and-eq-false (is_zero x) (list_any is_zero xs)).0 z in
    let e : n + 1 + length xs ≡ n + suc (length xs) = omega arith in
    text_goes_on n x (xs ++ ys) (eqb-false x 0 none.0) ∙ text_passes (n + 1) xs ys none.1 ∙ ap (λ (k : ℕ). text_from k ys) e

-- the text whose zero byte is found at k, behind n bytes that were passed
abbrev pub text_found : ℕ → Option ℕ → Option ℕ
text_found n None = None
text_found n (Some k) = Some (n + k)

text_found_from : (n i : ℕ) (bs : List ℕ) → text_from (n + i) bs ≡ text_found n (position_from is_zero i bs)
unfolding text_from
text_found_from n i [] = refl
text_found_from n i (b ∷ bs) =
    by_bool (b == 0)
    (λ t. rw t (text_ends (n + i) b bs (eqb-true b 0 t)))
    (λ t. let e : n + i + 1 ≡ n + (i + 1) = omega arith in rw t (text_goes_on (n + i) b bs (eqb-false b 0 t) ∙ rw e (text_found_from n (i + 1) bs)))

-- it is the text of the bytes searched
pub text_is_found : (n : ℕ) (bs : List ℕ) → text_from n bs ≡ text_found n (position_from is_zero 0 bs)
text_is_found n bs = ap (λ (k : ℕ). text_from k bs) (sym (add-zero n)) ∙ text_found_from n 0 bs

-- Zero bytes.

-- whether one of the `width` bytes at `at` is zero
unfoldable pub any_zero : List ℕ → ℕ → ℕ → Bool
any_zero image at zero = false
any_zero image at (suc width) = slice_index image at == 0 || any_zero image (suc at) width

-- one byte
pub zero_one : (image : List ℕ) (at : ℕ) → any_zero image at 1 ≡ (field image at 1 == 0)
unfolding any_zero
zero_one image at = rw (field_one image at) (or-false (slice_index image at == 0))

-- one of v bytes, or of the w behind them
pub zero_parts : (image : List ℕ) (v w at : ℕ) → any_zero image at (v + w) ≡ (any_zero image at v || any_zero image (at + v) w)
unfolding any_zero
zero_parts image zero w at = rw (zero-add w, add-zero at)
zero_parts image (suc v) w at =
    rw (suc-add v w, add-suc at v, ← suc-add at v, zero_parts image v w (suc at))
    (sym (or_assoc (slice_index image at == 0) (any_zero image (suc at) v) (any_zero image (suc at + v) w)))

-- the text in the n bytes at `at`, after the first i of them, of which none is zero
abbrev pub text_after : List ℕ → ℕ → ℕ → ℕ → Option ℕ
text_after image at n i = text_from i (take (n - i) (drop (at + i) image))

module _ (image : List ℕ) (at n : ℕ) where
  -- after none of them
  pub text_start : text_of (take n (drop at image)) ≡ text_after image at n 0
  text_start = simp (sub-zero, add-zero, text_whole)

  -- after all of them
  pub text_end : (i : ℕ) → n ≤ i → text_after image at n i ≡ None
  unfolding text_from
  text_end i l = let e : n - i ≡ 0 = omega arith in rw e

  -- their next w bytes, none of them zero, are passed
  pub text_passed : at + n ≤ length image → (w i : ℕ) → i + w ≤ n → list_any is_zero (take w (drop (at + i) image)) ≡ false
      → text_after image at n i ≡ text_after image at n (i + w)
  text_passed f w i l z =
      let rest : List ℕ = drop (at + i) image in
      let e : n - i ≡ w + (n - (i + w)) = omega arith in
      let d : at + i + w ≡ at + (i + w) = omega arith in
      let long : length (take w rest) ≡ w = length-take-le w rest (simp length-drop (omega arith)) in
      ap (λ (k : ℕ). text_from i (take k rest)) e
      ∙ ap (text_from i) (take-add w (n - (i + w)) rest)
      ∙ text_passes i (take w rest) _ z
      ∙ rw (long, drop-drop w (at + i) image, d) refl

  module _ (f : at + n ≤ length image) where
    -- by the next byte
    next_byte : (i : ℕ) → i < n → text_after image at n i ≡ text_from i (slice_index image (at + i) ∷ take (n - (i + 1)) (drop (at + (i + 1)) image))
    next_byte i l =
        let e : n - i ≡ suc (n - (i + 1)) = omega arith in
        let d : at + (i + 1) ≡ suc (at + i) = omega arith in
        rw (e, d, drop-cons image (at + i) 0 (omega arith))

    -- it is zero
    pub text_stops : (i : ℕ) → i < n → field image (at + i) 1 ≡ 0 → text_after image at n i ≡ Some i
    text_stops i l e = next_byte i l ∙ text_ends i _ _ (sym (field_one image (at + i)) ∙ e)

    -- the next w bytes, none of them zero
    pub text_turn : (w i : ℕ) → i + w ≤ n → any_zero image (at + i) w ≡ false → text_after image at n i ≡ text_after image at n (i + w)
    unfolding any_zero
    text_turn zero i l z = rw (add-zero i)
    text_turn (suc w) i l z =
        let none = (or-eq-false-eq-eq-false-and-eq-false (slice_index image (at + i) == 0) (any_zero image (suc (at + i)) w)).0 z in
        let d : at + (i + 1) ≡ suc (at + i) = omega arith in
        let e : i + 1 + w ≡ i + suc w = omega arith in
        next_byte i (omega arith)
        ∙ text_goes_on i _ _ (eqb-false _ 0 none.0)
        ∙ text_turn w (i + 1) (omega arith) (rw d none.1)
        ∙ ap (text_after image at n) e
