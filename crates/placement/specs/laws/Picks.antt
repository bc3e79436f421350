-- Orders by their numbers: the order tried as number i is picked by the digits of i in the factorial number system. Assumes nothing.
use Rattle.std.proofs.Common.{ℕ, zero, suc, ◌+◌, ◌-◌, ◌*◌, ◌/◌, ◌%◌, ◌<◌, ◌≡◌, refl, ltb, List, [], ◌∷◌, ◌++◌, map, length, get_or, sym, ap, ◌∙◌, div-lt_iff_lt-mul, add-one, suc-mul, arith, get_or-append-add, ltb-true, ltb-false}
use Rattle.std.proofs.lemmas.Grind.{common_steps}
use Rattle.std.proofs.Math.ListN.{get_or-append}
use Rattle.std.proofs.Math.Nat.{div-eq_of_lt-le, mod-eq-sub-div-mul}
use Rattle.block.specs.laws.Booleans.{by_bool}
use Rattle.placement.specs.Orders.{positions, without, starting_with, orders_of, orders, order_at, factorial}
use Rattle.placement.specs.laws.Positions.{Agree, agree_without}

pub factorial_some : (n : ℕ) → 0 < factorial n
unfolding factorial
factorial_some zero = omega arith
factorial_some (suc n) = grind (arith, factorial_some n)

pub factorial_zero : factorial 0 ≡ 1
unfolding factorial
factorial_zero = refl

-- an element of a mapped list
mapped : (f : List ℕ → List ℕ) (l : List (List ℕ)) (i : ℕ) → i < length l → get_or (map f l) i [] ≡ f (get_or l i [])
mapped f [] i h = absurd (omega arith)
mapped f (x ∷ l) zero h = refl
mapped f (x ∷ l) (suc i) h = mapped f l i (omega arith)

-- The orders that begin with each element in turn: as many for each, one run of them behind the other.

module _ (rest : ℕ → List (List ℕ)) (xs : List ℕ) (b : ℕ) (even : (k : ℕ) → length (rest k) ≡ b) where
  starting_length : (k : ℕ) → length (starting_with rest xs k) ≡ k * b
  unfolding starting_with
  starting_length zero = omega arith
  starting_length (suc k) = grind (arith, common_steps, starting_length k)

  -- element i stands in run i / b, at place i % b
  starting_at : (k i : ℕ) → i < k * b → get_or (starting_with rest xs k) i [] ≡ get_or xs (i / b) 0 ∷ get_or (rest (i / b)) (i % b) []
  unfolding starting_with
  starting_at zero i h = absurd (omega arith)
  starting_at (suc k) i h =
      by_bool (ltb i (k * b))
      (λ t.
      get_or-append (starting_with rest xs k) _ [] i (rw (starting_length k) (ltb-true i (k * b) t))
      ∙ starting_at k i (ltb-true i (k * b) t))
      (λ t.
      let l = ltb-false i (k * b) t in
      let u : i < k * b + b = rw (suc-mul k b) at h in
      let d : i / b ≡ k = div-eq_of_lt-le b l (rw (add-one k, suc-mul k b) u) in
      let m : i % b ≡ i - k * b = mod-eq-sub-div-mul i b ∙ ap (λ (q : ℕ). i - q * b) d in
      let run : List (List ℕ) = map (λ order. get_or xs k 0 ∷ order) (rest k) in
      ap (λ (n : ℕ). get_or (starting_with rest xs k ++ run) n []) (let e : i ≡ length (starting_with rest xs k) + (i - k * b) = omega (arith, starting_length k) in e)
      ∙ get_or-append-add (starting_with rest xs k) run (i - k * b) []
      ∙ mapped (λ order. get_or xs k 0 ∷ order) (rest k) (i - k * b) (rw (even k) (omega arith))
      ∙ ap (λ (j : ℕ). get_or xs k 0 ∷ get_or (rest k) j []) (sym m)
      ∙ ap (λ (q : ℕ). get_or xs q 0 ∷ get_or (rest q) (i % b) []) (sym d))

orders-length : (n : ℕ) (xs : List ℕ) → length (orders_of n xs) ≡ factorial n
unfolding orders_of factorial
orders-length zero xs = refl
orders-length (suc n) xs = grind (arith, starting_length, orders-length n)

-- there are n! of them
pub all-orders : (n : ℕ) → length (orders n) ≡ factorial n
unfolding orders
all-orders n = orders-length n (positions n)

-- Picking.

-- the order that the digits of i pick: the first is element i / (n - 1)!, the others are picked by the rest of i
unfoldable pub picked : ℕ → List ℕ → ℕ → List ℕ
picked zero xs i = []
picked (suc n) xs i = get_or xs (i / factorial n) 0 ∷ picked n (without (i / factorial n) xs) (i % factorial n)

picks_of : (n : ℕ) (xs : List ℕ) (i : ℕ) → i < factorial n → get_or (orders_of n xs) i [] ≡ picked n xs i
unfolding orders_of factorial picked
picks_of zero xs zero h = refl
picks_of zero xs (suc i) h = absurd (omega arith)
picks_of (suc n) xs i h = grind (arith, starting_at, orders-length, picks_of n)

pub order_picked : (n i : ℕ) → i < factorial n → order_at n i ≡ picked n (positions n) i
unfolding orders
order_picked n i h = picks_of n (positions n) i h

pub picked_none : (xs : List ℕ) (i : ℕ) → picked 0 xs i ≡ []
unfolding picked
picked_none xs i = refl

pub picked_one : (n : ℕ) (xs : List ℕ) (i : ℕ) → picked (suc n) xs i ≡ get_or xs (i / factorial n) 0 ∷ picked n (without (i / factorial n) xs) (i % factorial n)
unfolding picked
picked_one n xs i = refl

pub picked-length : (n : ℕ) (xs : List ℕ) (i : ℕ) → length (picked n xs i) ≡ n
unfolding picked
picked-length zero xs i = refl
picked-length (suc n) xs i = grind (arith, picked-length n)

-- a digit picks from as many as there are
pub digit_below : (n i : ℕ) → i < factorial (suc n) → i / factorial n < suc n
unfolding factorial
digit_below n i h = (div-lt_iff_lt-mul (factorial_some n)).1 h

-- what stands behind the first n elements is not looked at
pub picked_agree : (n : ℕ) (xs ys : List ℕ) (i : ℕ) → i < factorial n → Agree n xs ys → picked n xs i ≡ picked n ys i
unfolding picked
picked_agree zero xs ys i h a = refl
picked_agree (suc n) xs ys i h a = grind (arith, digit_below, factorial_some, agree_without, picked_agree n)
