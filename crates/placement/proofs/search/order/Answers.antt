-- The definition's tests in their order; the lesser of budget and all orders finds what the budget finds.
use Rattle.std.proofs.Common.{◌≡◌, true, ℕ, ◌<◌, min, List, length, Option, None, Some, Ok, Err, MatchOption, ok_or, sym, ap, ◌∙◌, subst, arith, rules}
use Rattle.placement.specs.declared.answer.Refusal.{Refusal}
use Rattle.placement.specs.declared.answer.Refusal.TheVariants.{NoBudget}
use Rattle.placement.specs.Orders.{order_at, factorial}
use Rattle.placement.specs.Placement.{good_plan, eight_places, large, floor_of, found, Placement, placement}
use Rattle.placement.specs.laws.Picks.{factorial_some}
use Rattle.placement.specs.laws.Rows.{BestFound, planned, placement_bad, placement_none, placement-found}
use Rattle.placement.proofs.Searching.{best_lesser}
use Rattle.placement.proofs.search.order.Goals as goal

pub returns-then-not-good_plan : goal.returns-then-not-good_plan
returns-then-not-good_plan c = sym (placement_bad _ _ _ (sym c.good_plan.ensures ∙ c.if-not-good_plan.true))

pub factorial-requires : goal.factorial-requires
factorial-requires c = (planned c.args.s _ (sym c.good_plan.ensures ∙ c.if-not-good_plan.false)).few

-- an `ok_or` that is `Ok` gives what was there, and one that is not tells that nothing was
chosen : (P : Type 0) (o : Option (ℕ × ℕ)) (Q : ℕ × ℕ → Type 0) (best : ℕ × ℕ) → MatchOption o P Q → ok_or o NoBudget ≡ Ok best → Q best
chosen P None Q best m e = cc
chosen P (Some x) Q best m e = let same : x ≡ best = cc in subst Q same m

missing : (P : Type 0) (o : Option (ℕ × ℕ)) (Q : ℕ × ℕ → Type 0) (r : Refusal) → MatchOption o P Q → ok_or o NoBudget ≡ Err r → P × (r ≡ NoBudget)
missing P None Q r m e = (m, cc)
missing P (Some x) Q r m e = cc

pub returns-in_err-large : goal.returns-in_err-large
returns-in_err-large c =
    let none = missing _ c.search.result _ _ c.search.ensures (sym c.ok_or.ensures.value ∙ c.in_err-large.was) in
    let good : good_plan c.args.s c.args.sizes.now ≡ true = sym c.good_plan.ensures ∙ c.if-not-good_plan.false in
    let r : c.from_residual.result ≡ Err c.in_err-large.field-0.0 = search rules in
    let some = factorial_some (length c.args.sizes.now) in
    rw (r, none.1) (sym (placement_none _ _ _ good (omega (arith, none.0, some, c.min-tried.ensures, c.factorial.ensures))))

pub order_at-requires : goal.order_at-requires
order_at-requires c =
    let best = chosen _ c.search.result _ _ c.search.ensures (sym c.ok_or.ensures.value ∙ c.in_ok-large.was) in
    ((planned c.args.s _ (sym c.good_plan.ensures ∙ c.if-not-good_plan.false)).few, omega (arith, best.was_tried, c.min-tried.ensures, c.factorial.ensures))

pub floor_of-requires : goal.floor_of-requires
floor_of-requires c = let most = (planned c.args.s _ (sym c.good_plan.ensures ∙ c.if-not-good_plan.false)).most in omega arith

-- the parts of what is found
makes : (s : ℕ) (sizes : List ℕ) (budget : ℕ) (order : List ℕ) (count tried floor index : ℕ)
    → good_plan s sizes ≡ true → tried ≡ min budget (factorial (length sizes))
    → BestFound s sizes tried (count, index) → order ≡ eight_places (order_at (length sizes) index) → floor ≡ floor_of s sizes
    → ◌≡◌ {A = Placement} (record { row = 0; order = order; large = count; tried = tried; floor = floor }) (placement s sizes budget)
unfolding found
makes s sizes budget order count tried floor index good t best o f =
    let all = best_lesser s sizes budget tried t in
    let some : 0 < budget = omega (arith, best.was_tried) in
    let order_is = o ∙ ap eight_places (best.order_is ∙ all) in
    let large_is = best.large_is ∙ ap (large s sizes) all in
    rw (placement-found s sizes budget good some) (λ q. record { row = 0; order = order_is q; large = large_is q; tried = t q; floor = f q })

pub returns : goal.returns
returns c =
    makes _ _ _ _ _ _ _ _ (sym c.good_plan.ensures ∙ c.if-not-good_plan.false) (c.min-tried.ensures ∙ ap (min _) c.factorial.ensures)
    (chosen _ c.search.result _ _ c.search.ensures (sym c.ok_or.ensures.value ∙ c.in_ok-large.was))
    c.order_at.ensures c.floor_of.ensures
