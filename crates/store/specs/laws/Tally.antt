-- Tally: its rows, and what it gives. Assumes nothing.
use Rattle.store.specs.State.{usage_of}
use Rattle.std.specs.Prelude.{ℕ, ◌≡◌, refl, length, Err, None, Ok, Option, Some}
use Rattle.std.proofs.Common.{sym, ap, ◌∙◌, arith}
use Rattle.block.specs.Walk.{count_blocks}
use Rattle.block.specs.laws.Counting.{count_balanced}
use Rattle.block.specs.declared.walk.Counts.{Counts}
use Rattle.store.specs.State.{State, usage_number, Balances}
use Rattle.store.specs.Calls.{opening, tally, tally_opened, tally_counted}
use Rattle.store.specs.laws.Refusals.{refused_some}
use Rattle.store.specs.declared.answer.Refusal.{Refusal}
use Rattle.store.specs.declared.answer.Refusal.TheVariants.{Unsound}
use Rattle.store.specs.State.{Answer}

module _ (x : State) (r : Refusal) (e : opening x ≡ Err r) where
  -- row 4 or 5
  pub tally_shut : Err r ≡ tally x
  unfolding tally tally_opened
  tally_shut = rw e

module _ (x : State) (s : ℕ) (e : opening x ≡ Ok s) where
  -- row 7
  pub tally_unsound : count_blocks x.image ≡ None → Err Unsound ≡ tally x
  unfolding tally tally_opened tally_counted
  tally_unsound u = rw (e, u)

  -- all are passed
  pub tally-counts : (c : Counts) → count_blocks x.image ≡ Some c → usage_of c.objects c.live c.free c.overhead ≡ tally x
  unfolding tally tally_opened tally_counted
  tally-counts c u = rw (e, u)

-- c are the counts of the blocks, and tally gives them
record Tallies (x : State) (c : Counts) : Type 0 where
  counts : count_blocks x.image ≡ Some c
  gives : tally x ≡ usage_of c.objects c.live c.free c.overhead

-- there are such where it is accepted
tally_parts : (x : State) → usage_number (tally x) ≡ 0 → (c : Counts) × Tallies x c
tally_parts x e = opened (opening x) refl
  where
    walked : (s : ℕ) → opening x ≡ Ok s → (w : Option Counts) → count_blocks x.image ≡ w → (c : Counts) × Tallies x c
    walked s o (Some c) u = (c, record { counts = u; gives = sym (tally-counts x s o c u) })
    walked s o None u = absurd (refused_some Unsound (ap usage_number (tally_unsound x s o u) ∙ e))

    opened : (a : Answer) → opening x ≡ a → (c : Counts) × Tallies x c
    opened (Ok s) o = walked s o (count_blocks x.image) refl
    opened (Err r) o = absurd (refused_some r (ap usage_number (tally_shut x r o) ∙ e))

-- and they are balanced
pub tally_balanced : (x : State) → usage_number (tally x) ≡ 0 → Balances (length x.image) (tally x)
tally_balanced x e =
    let (c, t) = tally_parts x e in
    rw t.gives (omega (arith, count_balanced x.image c t.counts))
