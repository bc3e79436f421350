-- The claims on orders. Assumes nothing.
use Rattle.std.proofs.Common.{ℕ, ◌≤◌, ◌<◌, ◌≡◌, refl, true, false, List, length, leb, sym, ap, ◌∙◌, subst, arith, leb-true, leb-false}
use Rattle.block.specs.laws.Booleans.{by_bool, and_both, true_false}
use Rattle.placement.specs.Orders.{order_at, Before}
use Rattle.placement.specs.Placement.{good_sizes, good_plan, large, best_order, eight_places, found, refused, Placement, placement}
use Rattle.placement.specs.Claims.{TriesAll, BadPlan, no_sizes, too_many, too_large, low_exponent, high_exponent, Refuses, RefusesInOrder}
use Rattle.placement.specs.Claims.{FirstBest, FindsFirstBest, NoneFewerAtAll, NoneUnderFloor}
use Rattle.placement.specs.laws.Picks.{all-orders}
use Rattle.placement.specs.laws.Arrangements.{every_order, only_orders, orders_ascend, orders_once, before_lower}
use Rattle.placement.specs.laws.Counts.{floor_under}
use Rattle.placement.specs.laws.Rows.{planned, plan_rest, size_most, size_above, Verdict, bad, unbudgeted, finds, verdict, best-at}

pub tries_all : TriesAll
unfolding TriesAll
tries_all n =
    record {
      number = all-orders n;
      only = only_orders n;
      every = every_order n;
      once = orders_once n;
      ascending = orders_ascend n;
    }

pub none_under_floor : NoneUnderFloor
unfolding NoneUnderFloor
none_under_floor s sizes order o = floor_under s sizes order o

-- Rows 26 and 27.

good_not_bad : (s : ℕ) (sizes : List ℕ) → good_plan s sizes ≡ true → BadPlan s sizes → ⊥
good_not_bad s sizes g (no_sizes e) = omega (arith, (planned s sizes g).some)
good_not_bad s sizes g (too_many l) = omega (arith, (planned s sizes g).few)
good_not_bad s sizes g (too_large k h l) = omega (arith, size_most sizes (planned s sizes g).good k)
good_not_bad s sizes g (low_exponent l) = omega (arith, (planned s sizes g).least)
good_not_bad s sizes g (high_exponent l) = omega (arith, (planned s sizes g).most)

-- the first test that fails says what is bad
not_good_bad : (s : ℕ) (sizes : List ℕ) → good_plan s sizes ≡ false → BadPlan s sizes
not_good_bad s sizes g =
    by_bool (leb 1 (length sizes))
    (λ some.
    by_bool (leb (length sizes) 8)
    (λ few.
    by_bool (good_sizes sizes)
    (λ good.
    by_bool (leb 6 s)
    (λ least.
    by_bool (leb s 15)
    (λ most.
    absurd
    (true_false
    (plan_rest s sizes (leb-true 1 (length sizes) some) (leb-true (length sizes) 8 few) good ∙ and_both (leb 6 s) (leb s 15) least most)
    g))
    (λ t. high_exponent (leb-false s 15 t)))
    (λ t. low_exponent (leb-false 6 s t)))
    (λ t. let (k, h, l) = size_above sizes t in too_large k h l))
    (λ t. too_many (leb-false (length sizes) 8 t)))
    (λ t. no_sizes (omega (arith, leb-false 1 (length sizes) t)))

pub refuses_in_order : RefusesInOrder
unfolding RefusesInOrder found
refuses_in_order s sizes budget = by (verdict s sizes budget)
  where
    by : Verdict s sizes budget → Refuses s sizes budget
    by (bad g p) =
        let some : BadPlan s sizes = not_good_bad s sizes g in
        let r : (placement s sizes budget).row ≡ 26 = ap (λ (q : Placement). q.row) p in
        record {
          bad_plan = ((λ e. some), λ b. r);
          no_budget = ((λ e. absurd (omega (arith, r, e))), λ q. absurd (q.0 some));
          accepted = ((λ e. absurd (omega (arith, r, e))), λ q. absurd (q.0 some));
          zeros = λ n. p ∙ ap refused (sym r);
        }
    by (unbudgeted g z p) =
        let none : BadPlan s sizes → ⊥ = good_not_bad s sizes g in
        let r : (placement s sizes budget).row ≡ 27 = ap (λ (q : Placement). q.row) p in
        record {
          bad_plan = ((λ e. absurd (omega (arith, r, e))), λ b. absurd (none b));
          no_budget = ((λ e. (none, z)), λ q. r);
          accepted = ((λ e. absurd (omega (arith, r, e))), λ q. absurd (omega (arith, z, q.1)));
          zeros = λ n. p ∙ ap refused (sym r);
        }
    by (finds g h p) =
        let none : BadPlan s sizes → ⊥ = good_not_bad s sizes g in
        let r : (placement s sizes budget).row ≡ 0 = ap (λ (q : Placement). q.row) p in
        record {
          bad_plan = ((λ e. absurd (omega (arith, r, e))), λ b. absurd (none b));
          no_budget = ((λ e. absurd (omega (arith, r, e))), λ q. absurd (omega (arith, h, q.1)));
          accepted = ((λ e. (none, h)), λ q. r);
          zeros = λ n. absurd (n r);
        }

-- What is found.

found-first-best : (s : ℕ) (sizes : List ℕ) (budget : ℕ) → 0 < budget → FirstBest s sizes budget (found s sizes budget)
unfolding found
found-first-best s sizes budget h =
    let n : ℕ = length sizes in
    let b = best-at s sizes budget h in
    record {
      tried_is = refl;
      floor_is = refl;
      index = b.index;
      was_tried = b.was_tried;
      order_is = ap eight_places b.is;
      large_is = ap (large s sizes) b.is;
      none_fewer = b.none_fewer;
      first = λ order o w.
          let (i, m, q) = every_order n order o in
          let u : Before (order_at n i) (order_at n b.index) = subst (λ (x : List ℕ). Before x (order_at n b.index)) (sym q) w in
          subst (λ (x : List ℕ). large s sizes (best_order s sizes budget) < large s sizes x) q
          (b.first i (before_lower n i b.index m (omega (arith, b.was_tried)) u));
    }

pub finds-first-best : FindsFirstBest
unfolding FindsFirstBest
finds-first-best s sizes budget e = by (verdict s sizes budget)
  where
    by : Verdict s sizes budget → FirstBest s sizes budget (placement s sizes budget)
    by (bad g p) = absurd (omega (arith, e, ap (λ (q : Placement). q.row) p))
    by (unbudgeted g z p) = absurd (omega (arith, e, ap (λ (q : Placement). q.row) p))
    by (finds g h p) = subst (FirstBest s sizes budget) (sym p) (found-first-best s sizes budget h)

pub none_fewer_at_all : NoneFewerAtAll
unfolding NoneFewerAtAll FindsFirstBest
none_fewer_at_all s sizes budget e all order o =
    let (i, l, q) = every_order (length sizes) order o in
    subst (λ (x : List ℕ). (placement s sizes budget).large ≤ large s sizes x) q ((finds-first-best s sizes budget e).none_fewer i (omega arith))
