-- Lists of positions: ascending ones, lists without an element, and lists that begin alike. Assumes nothing.
use Rattle.std.proofs.Common.{ℕ, zero, suc, ◌+◌, ◌≤◌, ◌<◌, ◌≡◌, refl, cond, List, [], ◌∷◌, length, get_or, ltb, sym, ap, ◌∙◌, arith, ltb-true, ltb-false}
use Rattle.block.specs.laws.Booleans.{by_bool}
use Rattle.placement.specs.Orders.{positions_from, positions, without}

-- by which of two numbers is the lower
pub by_order : {P : Type 0} (a b : ℕ) → (a < b → P) → (b < a → P) → (a ≡ b → P) → P
by_order a b l g e =
    by_bool (ltb a b)
    (λ t. l (ltb-true a b t))
    (λ t. by_bool (ltb b a) (λ u. g (ltb-true b a u)) (λ u. e (omega (arith, ltb-false a b t, ltb-false b a u))))

-- The positions of n objects.

pub positions-length : (n from : ℕ) → length (positions_from n from) ≡ n
unfolding positions_from
positions-length zero from = refl
positions-length (suc n) from = ap suc (positions-length n (suc from))

pub positions-at : (n from i : ℕ) → i < n → get_or (positions_from n from) i 0 ≡ from + i
unfolding positions_from
positions-at zero from i h = absurd (omega arith)
positions-at (suc n) from zero h = omega arith
positions-at (suc n) from (suc i) h = positions-at n (suc from) i (omega arith) ∙ omega arith

-- A list without element k.

pub without-length : (k : ℕ) (xs : List ℕ) → k < length xs → suc (length (without k xs)) ≡ length xs
unfolding without
without-length k [] h = absurd (omega arith)
without-length zero (x ∷ xs) h = refl
without-length (suc k) (x ∷ xs) h = ap suc (without-length k xs (omega arith))

without_below : (k : ℕ) (xs : List ℕ) (m : ℕ) → m < k → get_or (without k xs) m 0 ≡ get_or xs m 0
unfolding without
without_below k [] m h = refl
without_below zero (x ∷ xs) m h = absurd (omega arith)
without_below (suc k) (x ∷ xs) zero h = refl
without_below (suc k) (x ∷ xs) (suc m) h = without_below k xs m (omega arith)

without_above : (k : ℕ) (xs : List ℕ) (m : ℕ) → k ≤ m → get_or (without k xs) m 0 ≡ get_or xs (suc m) 0
unfolding without
without_above k [] m h = refl
without_above zero (x ∷ xs) m h = refl
without_above (suc k) (x ∷ xs) zero h = absurd (omega arith)
without_above (suc k) (x ∷ xs) (suc m) h = without_above k xs m (omega arith)

-- where its element m stood in the whole list
pub stood : (k m : ℕ) → ℕ
stood k m = cond (ltb m k) m (suc m)

pub without_at : (k : ℕ) (xs : List ℕ) (m : ℕ) → get_or (without k xs) m 0 ≡ get_or xs (stood k m) 0
unfolding stood
without_at k xs m = grind (arith, without_below, without_above)

pub stood_other : (k m : ℕ) → stood k m ≡ k → ⊥
unfolding stood
stood_other k m = grind arith

stood_ascends : (k a b : ℕ) → a < b → stood k a < stood k b
unfolding stood
stood_ascends k a b l = grind arith

pub stood_most : (k m : ℕ) → stood k m ≤ suc m
unfolding stood
stood_most k m = grind arith

-- every element but element k stands in it
pub stands_without :
    (k m : ℕ) (xs : List ℕ) → k < length xs → m < length xs → (m ≡ k → ⊥)
    → (q : ℕ) × (q < length (without k xs)) × (get_or (without k xs) q 0 ≡ get_or xs m 0)
stands_without k zero xs h l n = (0, omega (arith, without-length k xs h), without_below k xs 0 (omega arith))
stands_without k (suc m) xs h l n =
    by_bool (ltb (suc m) k)
    (λ t. (suc m, omega (arith, ltb-true (suc m) k t, without-length k xs h), without_below k xs (suc m) (ltb-true (suc m) k t)))
    (λ t. (m, omega (arith, without-length k xs h), without_above k xs m (omega (arith, ltb-false (suc m) k t))))

-- Ascending lists.

unfoldable pub Ascending : List ℕ → Type 0
Ascending xs = (a b : ℕ) → a < b → b < length xs → get_or xs a 0 < get_or xs b 0

pub positions_ascend : (n : ℕ) → Ascending (positions n)
unfolding Ascending
positions_ascend n a b l h =
    let k : b < n = rw (positions-length n 0) at h in
    omega (arith, positions-at n 0 a (omega arith), positions-at n 0 b k)

pub without_ascends : (k : ℕ) (xs : List ℕ) → k < length xs → Ascending xs → Ascending (without k xs)
unfolding Ascending
without_ascends k xs h r a b l m =
    rw (without_at k xs a, without_at k xs b)
    (r (stood k a) (stood k b) (stood_ascends k a b l) (omega (arith, stood_most k b, without-length k xs h)))

-- different places of an ascending list hold different numbers
pub ascending_once : (xs : List ℕ) → Ascending xs → (a b : ℕ) → a < length xs → b < length xs → get_or xs a 0 ≡ get_or xs b 0 → a ≡ b
unfolding Ascending
ascending_once xs r a b h k e = grind arith

-- Lists that begin alike.

-- their first n elements are the same
pub record Agree (n : ℕ) (xs ys : List ℕ) : Type 0 where
  pub at : (k : ℕ) → k < n → get_or xs k 0 ≡ get_or ys k 0

-- the positions of fewer objects
pub positions_agree : (n m : ℕ) → n ≤ m → Agree n (positions m) (positions n)
positions_agree n m h = record { at = λ k l. positions-at m 0 k (omega arith) ∙ sym (positions-at n 0 k l) }

pub agree_without : (m k : ℕ) (xs ys : List ℕ) → Agree (suc m) xs ys → Agree m (without k xs) (without k ys)
agree_without m k xs ys a =
    record { at = λ q h. without_at k xs q ∙ a.at (stood k q) (omega (arith, stood_most k q)) ∙ sym (without_at k ys q) }
