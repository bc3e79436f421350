-- Tests in a row: refused, or gone on. Assumes nothing.
use Rattle.std.specs.Prelude.{ℕ, ◌≤◌, ◌<◌, ◌≡◌, refl, Bool, true, false, ◌↔◌, Err, Ok}
use Rattle.std.proofs.Common.{ap, ◌∙◌, arith}
use Rattle.block.specs.laws.Booleans.{true_false}
use Rattle.store.specs.State.{State, Outcome, IsAccepted, refusal_number, returned, value, demand, and_then, refuse}
use Rattle.store.specs.declared.answer.Refusal.{Refusal}
use Rattle.store.specs.declared.answer.Refusal.TheVariants.{BadExponent, BadLength, TooFewEntries, BadSuperblock, ShortTable, Empty, Unsound, NoSpace, EntryTaken, BadTag, Dangling, Leaves, OutOfBounds, BadWidth, NotBase, TooLarge, Unterminated, EntryLost, WrongTotal, BadDescriptor, Undescribed}
use Rattle.store.specs.State.{Answer}

-- what an answer leaves where its value goes: the value, or what stood there
abbrev pub given : Answer → ℕ → ℕ
given (Ok v) before = v
given (Err r) before = before

-- over a zero it is the value
pub given_zero : (a : Answer) → given a 0 ≡ value a
given_zero (Ok v) = refl
given_zero (Err r) = refl

-- a refusal's number has one or two digits, and is not 0
pub refusal_range : (r : Refusal) → (1 ≤ refusal_number r) × (refusal_number r < 100)
refusal_range BadExponent = (omega arith, omega arith)
refusal_range BadLength = (omega arith, omega arith)
refusal_range TooFewEntries = (omega arith, omega arith)
refusal_range BadSuperblock = (omega arith, omega arith)
refusal_range ShortTable = (omega arith, omega arith)
refusal_range Empty = (omega arith, omega arith)
refusal_range Unsound = (omega arith, omega arith)
refusal_range NoSpace = (omega arith, omega arith)
refusal_range EntryTaken = (omega arith, omega arith)
refusal_range BadTag = (omega arith, omega arith)
refusal_range Dangling = (omega arith, omega arith)
refusal_range Leaves = (omega arith, omega arith)
refusal_range OutOfBounds = (omega arith, omega arith)
refusal_range BadWidth = (omega arith, omega arith)
refusal_range NotBase = (omega arith, omega arith)
refusal_range TooLarge = (omega arith, omega arith)
refusal_range Unterminated = (omega arith, omega arith)
refusal_range EntryLost = (omega arith, omega arith)
refusal_range WrongTotal = (omega arith, omega arith)
refusal_range BadDescriptor = (omega arith, omega arith)
refusal_range Undescribed = (omega arith, omega arith)

-- no refusal has the number 0
pub refused_some : (r : Refusal) → refusal_number r ≡ 0 → ⊥
refused_some r e = omega (arith, (refusal_range r).0)

-- a refused outcome is not accepted
pub not-accepted : (r : Refusal) {y : State} {o : Outcome} → refuse r y ≡ o → IsAccepted o → ⊥
not-accepted r q e = refused_some r (ap (λ (z : Outcome). returned z.answer) q ∙ e)

-- an answer that is accepted has a value
pub accepted_is : (a : Answer) → returned a ≡ 0 → a ≡ Ok (value a)
accepted_is (Ok v) e = refl
accepted_is (Err r) e = absurd (refused_some r e)

-- a test is accepted exactly where it holds
pub demand_iff : (ok : Bool) (r : Refusal) (v : ℕ) → (returned (demand ok r (Ok v)) ≡ 0) ↔ (ok ≡ true)
demand_iff true r v = ((λ e. refl), λ e. refl)
demand_iff false r v = ((λ e. absurd (refused_some r e)), λ (e : false ≡ true). absurd (true_false e refl))

-- a test that came through is met, and what follows it came through too
pub demand_met : (ok : Bool) (r : Refusal) (next : Answer) (v : ℕ) → demand ok r next ≡ Ok v → (ok ≡ true) × (next ≡ Ok v)
demand_met true r next v e = (refl, e)
demand_met false r next v e = cc

pub and_then_met : (a : Answer) (next : ℕ → Answer) (v : ℕ) → and_then a next ≡ Ok v → (u : ℕ) × (a ≡ Ok u) × (next u ≡ Ok v)
and_then_met (Ok u) next v e = (u, refl, e)
and_then_met (Err r) next v e = cc
