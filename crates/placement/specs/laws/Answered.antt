-- The answer that a result of the search stands for. Assumes nothing.
use Rattle.std.proofs.Common.{ℕ, ◌≡◌, refl, Result, Ok, Err, ap, arith}
use Rattle.block.specs.Bytes.{decode, field}
use Rattle.placement.specs.declared.answer.Placement.{Placement as Placed}
use Rattle.placement.specs.declared.answer.Refusal.{Refusal}
use Rattle.placement.specs.declared.answer.Refusal.TheVariants.{BadPlan, NoBudget}
use Rattle.placement.specs.Placement.{refused, Placement, order_word, answered}

-- two results that give one answer are one
pub answered_once : (a b : Result Placed Refusal) → answered a ≡ answered b → a ≡ b
answered_once (Ok p) (Ok q) e = grind arith
answered_once (Ok p) (Err BadPlan) e = absurd (omega (arith, ap (λ (r : Placement). r.row) e))
answered_once (Ok p) (Err NoBudget) e = absurd (omega (arith, ap (λ (r : Placement). r.row) e))
answered_once (Err BadPlan) (Ok q) e = absurd (omega (arith, ap (λ (r : Placement). r.row) e))
answered_once (Err NoBudget) (Ok q) e = absurd (omega (arith, ap (λ (r : Placement). r.row) e))
answered_once (Err BadPlan) (Err BadPlan) e = refl
answered_once (Err NoBudget) (Err NoBudget) e = refl
answered_once (Err BadPlan) (Err NoBudget) e = absurd (omega (arith, ap (λ (r : Placement). r.row) e))
answered_once (Err NoBudget) (Err BadPlan) e = absurd (omega (arith, ap (λ (r : Placement). r.row) e))

-- a refusal's order is the number 0
pub refused_word : (row : ℕ) → order_word (refused row) ≡ 0
unfolding decode field
refused_word row = refl
