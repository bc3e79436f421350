-- Row 26 test by test, the ways out of the search, and its order as bytes. Assumes nothing.
use Rattle.std.specs.Prelude.{ℕ, zero, suc, ◌-◌, ◌≤◌, ◌<◌, min, ◌≡◌, true, false, ◌&&◌, List, [], ◌∷◌, ◌++◌, length, get_or, take, replicate, leb, ltb}
use Rattle.std.proofs.Common.{sym, ◌∙◌, subst, arith, length-take, get_or-take, ltb-true, ltb-false, leb-true, lt-ltb, le-ltb, leb-false}
use Rattle.block.specs.Bytes.{Bytes}
use Rattle.block.specs.Layout.{within, good_exponent}
use Rattle.block.specs.laws.Booleans.{by_bool, and_left, and_right}
use Rattle.placement.specs.Orders.{orders, order_at, factorial}
use Rattle.placement.specs.Placement.{good_sizes, good_plan, large, first_least, best_order, found, refused, placement}
use Rattle.placement.specs.laws.Picks.{factorial_some, all-orders}
use Rattle.placement.specs.laws.Arrangements.{only_orders}
use Rattle.placement.specs.laws.Least.{first_least_lem}
use Rattle.placement.specs.laws.Packed.{below_bytes}

-- A plan.

-- what a good one is
pub record Planned (s : ℕ) (sizes : List ℕ) : Type 0 where
  pub some : 1 ≤ length sizes
  pub few : length sizes ≤ 8
  pub good : good_sizes sizes ≡ true
  pub least : 6 ≤ s
  pub most : s ≤ 15

pub planned : (s : ℕ) (sizes : List ℕ) → good_plan s sizes ≡ true → Planned s sizes
unfolding good_plan
planned s sizes g =
    let w = and_left (within 1 8 (length sizes)) (good_sizes sizes && good_exponent s) g in
    let r = and_right (within 1 8 (length sizes)) (good_sizes sizes && good_exponent s) g in
    let x = and_right (good_sizes sizes) (good_exponent s) r in
    record {
      some = leb-true 1 (length sizes) (and_left (leb 1 (length sizes)) (leb (length sizes) 8) w);
      few = leb-true (length sizes) 8 (and_right (leb 1 (length sizes)) (leb (length sizes) 8) w);
      good = and_left (good_sizes sizes) (good_exponent s) r;
      least = leb-true 6 s (and_left (leb 6 s) (leb s 15) x);
      most = leb-true s 15 (and_right (leb 6 s) (leb s 15) x);
    }

-- the tests of the count and of the sizes passed, that of the exponent tells
pub plan_rest : (s : ℕ) (sizes : List ℕ) → 1 ≤ length sizes → length sizes ≤ 8 → good_sizes sizes ≡ true → good_plan s sizes ≡ good_exponent s
unfolding good_plan
plan_rest s sizes l m g = grind arith

-- each size is in range
pub size_most : (sizes : List ℕ) → good_sizes sizes ≡ true → (k : ℕ) → get_or sizes k 0 ≤ 65535
unfolding good_sizes
size_most [] g k = omega arith
size_most (size ∷ sizes) g zero = grind arith
size_most (size ∷ sizes) g (suc k) = grind (arith, size_most sizes)

-- or one is not
pub size_above : (sizes : List ℕ) → good_sizes sizes ≡ false → (k : ℕ) × (k < length sizes) × (65535 < get_or sizes k 0)
unfolding good_sizes
size_above [] g = cc
size_above (size ∷ sizes) g =
    by_bool (leb size 65535)
    (λ t. let (k, h, l) = size_above sizes (rw t at g) in (suc k, omega arith, l))
    (λ t. (0, omega arith, leb-false size 65535 t))

-- The answer.

-- its three ways out
pub data Verdict (s : ℕ) (sizes : List ℕ) (budget : ℕ) : Type 0 where
  bad : good_plan s sizes ≡ false → placement s sizes budget ≡ refused 26 → Verdict s sizes budget
  unbudgeted : good_plan s sizes ≡ true → budget ≡ 0 → placement s sizes budget ≡ refused 27 → Verdict s sizes budget
  finds : good_plan s sizes ≡ true → 0 < budget → placement s sizes budget ≡ found s sizes budget → Verdict s sizes budget

pub placement_bad : (s : ℕ) (sizes : List ℕ) (budget : ℕ) → good_plan s sizes ≡ false → placement s sizes budget ≡ refused 26
unfolding placement
placement_bad s sizes budget g = rw g

pub placement_none : (s : ℕ) (sizes : List ℕ) (budget : ℕ) → good_plan s sizes ≡ true → budget ≡ 0 → placement s sizes budget ≡ refused 27
unfolding placement
placement_none s sizes budget g e = rw (g, le-ltb 0 budget (omega arith))

pub placement-found : (s : ℕ) (sizes : List ℕ) (budget : ℕ) → good_plan s sizes ≡ true → 0 < budget → placement s sizes budget ≡ found s sizes budget
unfolding placement
placement-found s sizes budget g h = rw (g, lt-ltb 0 budget h)

pub verdict : (s : ℕ) (sizes : List ℕ) (budget : ℕ) → Verdict s sizes budget
verdict s sizes budget =
    by_bool (good_plan s sizes)
    (λ g.
    by_bool (ltb 0 budget)
    (λ t. let h = ltb-true 0 budget t in finds g h (placement-found s sizes budget g h))
    (λ t. let e : budget ≡ 0 = omega (arith, ltb-false 0 budget t) in unbudgeted g e (placement_none s sizes budget g e)))
    (λ g. bad g (placement_bad s sizes budget g))

-- The orders that the budget allows.

pub tried_length : (n budget : ℕ) → length (take budget (orders n)) ≡ min budget (factorial n)
tried_length n budget = grind (arith, length-take, all-orders)

pub tried_at : (n budget i : ℕ) → i < min budget (factorial n) → get_or (take budget (orders n)) i [] ≡ order_at n i
tried_at n budget i h = get_or-take budget (orders n) i [] (omega arith)

-- the best of them, by its number: none of them has fewer, and those before it have more
pub record BestAt (s : ℕ) (sizes : List ℕ) (budget : ℕ) : Type 0 where
  pub index : ℕ
  pub was_tried : index < min budget (factorial (length sizes))
  pub is : best_order s sizes budget ≡ order_at (length sizes) index
  pub none_fewer :
      (i : ℕ) → i < min budget (factorial (length sizes)) → large s sizes (best_order s sizes budget) ≤ large s sizes (order_at (length sizes) i)
  pub first : (i : ℕ) → i < index → large s sizes (best_order s sizes budget) < large s sizes (order_at (length sizes) i)

pub best-at : (s : ℕ) (sizes : List ℕ) (budget : ℕ) → 0 < budget → BestAt s sizes budget
unfolding best_order
best-at s sizes budget h =
    let n : ℕ = length sizes in
    let tried : List (List ℕ) = take budget (orders n) in
    let b = first_least_lem (large s sizes) tried (omega (arith, tried_length n budget, factorial_some n)) in
    let l : b.index < min budget (factorial n) = subst (λ (m : ℕ). b.index < m) (tried_length n budget) b.inside in
    record {
      index = b.index;
      was_tried = l;
      is = sym b.is ∙ tried_at n budget b.index l;
      none_fewer = λ i m.
          subst (λ (o : List ℕ). large s sizes (first_least (large s sizes) tried) ≤ large s sizes o) (tried_at n budget i m)
          (b.least i (subst (λ (k : ℕ). i < k) (sym (tried_length n budget)) m));
      first = λ i m.
          subst (λ (o : List ℕ). large s sizes (first_least (large s sizes) tried) < large s sizes o) (tried_at n budget i (omega arith)) (b.first i m);
    }

-- what the search over so many orders gives: the best one's large-framed objects, and its number
pub record BestFound (s : ℕ) (sizes : List ℕ) (tried : ℕ) (best : ℕ × ℕ) : Type 0 where
  pub was_tried : best.1 < tried
  pub order_is : order_at (length sizes) best.1 ≡ best_order s sizes tried
  pub large_is : best.0 ≡ large s sizes (best_order s sizes tried)

-- Every place of the answer is a byte.

zeros_bytes : (n : ℕ) → Bytes (replicate n 0)
zeros_bytes zero k = omega arith
zeros_bytes (suc n) zero = omega arith
zeros_bytes (suc n) (suc k) = zeros_bytes n k

append_bytes : (xs ys : List ℕ) → Bytes xs → Bytes ys → Bytes (xs ++ ys)
append_bytes [] ys a b k = b k
append_bytes (x ∷ xs) ys a b zero = a zero
append_bytes (x ∷ xs) ys a b (suc k) = append_bytes xs ys (λ m. a (suc m)) b k

found_bytes : (s : ℕ) (sizes : List ℕ) (budget : ℕ) → good_plan s sizes ≡ true → 0 < budget → Bytes (found s sizes budget).order
unfolding found
found_bytes s sizes budget g h =
    let best : List ℕ = best_order s sizes budget in
    let b = best-at s sizes budget h in
    let o = only_orders (length sizes) b.index (omega (arith, b.was_tried)) in
    let bytes : Bytes best =
    subst Bytes (sym b.is)
    (below_bytes (order_at (length sizes) b.index) (λ k l. omega (arith, o.below k (omega (arith, o.length_is)), (planned s sizes g).few))) in
    append_bytes best (replicate (8 - length best) 0) bytes (zeros_bytes (8 - length best))

pub placement_bytes : (s : ℕ) (sizes : List ℕ) (budget : ℕ) → Bytes (placement s sizes budget).order
placement_bytes s sizes budget = by (verdict s sizes budget)
  where
    by : Verdict s sizes budget → Bytes (placement s sizes budget).order
    by (bad g p) k = rw p (zeros_bytes 8 k)
    by (unbudgeted g e p) k = rw p (zeros_bytes 8 k)
    by (finds g h p) k = rw p (found_bytes s sizes budget g h k)
