-- The search: the fold over the orders' numbers, and the budget. Assumes nothing.
use Rattle.std.proofs.Common.{ℕ, zero, suc, ◌+◌, ◌≤◌, ◌<◌, min, ◌≡◌, refl, List, [], ◌∷◌, map, length, take, drop, ltb, fold, MatchOption, sym, ap, ◌∙◌, subst, arith, drop_of_length-le, take_all, ltb-true, ltb-false, leb-false, nat_cmp}
use Rattle.std.proofs.lemmas.Grind.{common_steps}
use Rattle.std.specs.List.{reduce, range_with_len}
use Rattle.std.specs.Ordering.{min_by_ordering, ordering_then}
use Rattle.std.proofs.lemmas.Bool.Decides.{nat_tests}
use Rattle.block.specs.laws.Booleans.{by_bool}
use Rattle.placement.specs.Orders.{orders, order_at, factorial}
use Rattle.placement.specs.Placement.{large, least_from, first_least, best_order}
use Rattle.placement.specs.laws.Picks.{all-orders}
use Rattle.placement.specs.laws.Least.{takes, keeps}
use Rattle.placement.specs.laws.Rows.{BestFound, tried_length}

-- The lesser of two pairs, as `min` picks it.

abbrev pub lesser : ℕ × ℕ → ℕ × ℕ → ℕ × ℕ
lesser best next = min_by_ordering (ordering_then (nat_cmp best.0 next.0) (nat_cmp best.1 next.1)) best next

lesser_takes : (best next : ℕ × ℕ) → next.0 < best.0 → lesser best next ≡ next
lesser_takes best next l = grind (arith, nat_tests)

lesser_keeps : (best next : ℕ × ℕ) → best.0 ≤ next.0 → best.1 < next.1 → lesser best next ≡ best
lesser_keeps best next l m = grind (arith, nat_tests)

-- The orders by their numbers.

-- an order's large-framed objects, and its number
abbrev pub pair : ℕ → List ℕ → ℕ → ℕ × ℕ
pair s sizes i = (large s sizes (order_at (length sizes) i), i)

module _ (s : ℕ) (sizes : List ℕ) (tried : ℕ) (most : tried ≤ factorial (length sizes)) where
  -- before number i: the best so far and the orders that are left have the first best of all that are tried
  record Searching (best : ℕ × ℕ) (i : ℕ) : Type 0 where
    pub was_tried : best.1 < i
    pub large_is : best.0 ≡ large s sizes (order_at (length sizes) best.1)
    pub is : least_from (large s sizes) (order_at (length sizes) best.1) (drop i (take tried (orders (length sizes)))) ≡ best_order s sizes tried

  -- the next order, and those behind it
  next_order : (i : ℕ) → i < tried → drop i (take tried (orders (length sizes))) ≡ order_at (length sizes) i ∷ drop (i + 1) (take tried (orders (length sizes)))
  next_order i h = grind (arith, common_steps, tried_length)

  -- it begins with the first order
  begins : 0 < tried → Searching (pair s sizes 0) 1
  unfolding best_order first_least
  begins h = record { was_tried = omega arith; large_is = refl; is = sym (ap (first_least (large s sizes)) (next_order 0 h)) }

  goes_on : (best : ℕ × ℕ) (i : ℕ) → Searching best i → i < tried → Searching (lesser best (pair s sizes i)) (i + 1)
  goes_on best i now h =
      let f : List ℕ → ℕ = large s sizes in
      let order : List ℕ = order_at (length sizes) i in
      let so_far : List ℕ = order_at (length sizes) best.1 in
      let rest : List (List ℕ) = drop (i + 1) (take tried (orders (length sizes))) in
      let met : least_from f so_far (order ∷ rest) ≡ best_order s sizes tried = ap (least_from f so_far) (sym (next_order i h)) ∙ now.is in
      by_bool (ltb (f order) best.0)
      (λ t.
      let l = ltb-true (f order) best.0 t in
      rw (lesser_takes best (pair s sizes i) l)
      (record { was_tried = omega arith; large_is = refl; is = sym (takes f so_far order rest (omega (arith, now.large_is))) ∙ met }))
      (λ t.
      let l = ltb-false (f order) best.0 t in
      rw (lesser_keeps best (pair s sizes i) l now.was_tried)
      (record { was_tried = omega (arith, now.was_tried); large_is = now.large_is; is = sym (keeps f so_far order rest (omega (arith, now.large_is))) ∙ met }))

  -- no order is left
  ends : (best : ℕ × ℕ) → Searching best tried → BestFound s sizes tried best
  unfolding least_from
  ends best now =
      let none : drop tried (take tried (orders (length sizes))) ≡ [] =
      drop_of_length-le (take tried (orders (length sizes))) {i = tried} (omega (arith, tried_length (length sizes) tried)) in
      let is : order_at (length sizes) best.1 ≡ best_order s sizes tried =
      sym (ap (least_from (large s sizes) (order_at (length sizes) best.1)) none) ∙ now.is in
      record { was_tried = now.was_tried; order_is = is; large_is = now.large_is ∙ ap (large s sizes) is }

  folds : (k i : ℕ) (best : ℕ × ℕ) → Searching best i → i + k ≡ tried → BestFound s sizes tried (fold lesser best (map (pair s sizes) (range_with_len i k)))
  folds zero i best now e = let last : i ≡ tried = omega arith in ends best (subst (Searching best) last now)
  folds (suc k) i best now e = folds k (i + 1) (lesser best (pair s sizes i)) (goes_on best i now (omega arith)) (omega arith)

-- the least pair of all that are tried, if any are
pub least_is_best : (s : ℕ) (sizes : List ℕ) (tried : ℕ) → tried ≤ factorial (length sizes)
    → MatchOption (reduce lesser (map (pair s sizes) (range_with_len 0 tried))) (tried ≡ 0) (λ best. BestFound s sizes tried best)
least_is_best s sizes zero most = refl
least_is_best s sizes (suc k) most = folds s sizes (suc k) most k 1 (pair s sizes 0) (begins s sizes (suc k) most (omega arith)) (omega arith)

-- The budget.

-- more than all orders are no more than all
take_lesser : (n budget : ℕ) → take (min budget (factorial n)) (orders n) ≡ take budget (orders n)
take_lesser n budget = grind (arith, all-orders, take_all, leb-false)

pub best_lesser : (s : ℕ) (sizes : List ℕ) (budget tried : ℕ) → tried ≡ min budget (factorial (length sizes)) → best_order s sizes tried ≡ best_order s sizes budget
unfolding best_order
best_lesser s sizes budget tried e = grind (arith, take_lesser)
