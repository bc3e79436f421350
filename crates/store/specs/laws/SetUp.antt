-- Set-up: its rows, what an accepted one was given and leaves, and the fresh image. Assumes nothing.
use Rattle.std.specs.Prelude.{ℕ, ◌^◌, ◌≤◌, ◌<◌, ◌-◌, ◌≡◌, refl, true, false, leb, length, take, drop, replicate, ◌++◌, Err, Ok}
use Rattle.std.proofs.lemmas.Grind.{common_steps}
use Rattle.std.proofs.Common.{sym, ap, ◌∙◌, arith, length-append, leb-true, le-leb}
use Rattle.std.proofs.lemmas.List.{length-replicate}
use Rattle.std.proofs.lemmas.Bool.{lt-leb}
use Rattle.std.proofs.Math.Seq.{take_at, drop_at}
use Rattle.frame.specs.Tags.{used_entries}
use Rattle.block.specs.Layout.{good_exponent, good_length, superblock, free_header}
use Rattle.block.specs.laws.Headers.{length-header}
use Rattle.block.specs.laws.Superblock.{length-superblock}
use Rattle.store.specs.State.{State, Outcome, outcome, IsAccepted, returned}
use Rattle.store.specs.Calls.{set_up_checks, fresh, cleared, set_up}
use Rattle.store.specs.laws.Refusals.{not-accepted, demand_met}
use Rattle.store.specs.declared.answer.Refusal.{Refusal}
use Rattle.store.specs.declared.answer.Refusal.TheVariants.{BadExponent, BadLength, TooFewEntries}
use Rattle.store.specs.State.{Answer}

-- rows 1, 2 and 3 are passed
pub record Settable (s : ℕ) (x : State) : Type 0 where
  pub exponent_low : 6 ≤ s
  pub exponent_high : s ≤ 15
  pub length_low : 64 ≤ length x.image
  pub length_high : length x.image ≤ 2 ^ 30
  pub entries : used_entries s (length x.image) ≤ length x.table

-- an accepted set-up passes them
pub settable_parts : (s : ℕ) (x : State) (v : ℕ) → set_up_checks s x ≡ Ok v → Settable s x
unfolding set_up_checks
settable_parts s x v e =
    let a = demand_met (good_exponent s) BadExponent _ v e in
    let b = demand_met (good_length (length x.image)) BadLength _ v a.1 in
    let c = demand_met (leb (used_entries s (length x.image)) (length x.table)) TooFewEntries _ v b.1 in
    record {
      exponent_low = grind (arith, common_steps, a.0);
      exponent_high = grind (arith, common_steps, a.0);
      length_low = grind (arith, common_steps, b.0);
      length_high = grind (arith, common_steps, b.0);
      entries = leb-true _ _ c.0;
    }

-- The rows, and what is left by the answer.

module _ (s : ℕ) (x : State) where
  -- row 1
  pub set_up_exponent : good_exponent s ≡ false → set_up_checks s x ≡ Err BadExponent
  unfolding set_up_checks
  set_up_exponent a = simp a

  -- row 2
  pub set_up-length : good_exponent s ≡ true → good_length (length x.image) ≡ false → set_up_checks s x ≡ Err BadLength
  unfolding set_up_checks
  set_up-length a b = simp (a, b)

  -- row 3
  pub set_up_few : good_exponent s ≡ true → good_length (length x.image) ≡ true → length x.table < used_entries s (length x.image) → set_up_checks s x ≡ Err TooFewEntries
  unfolding set_up_checks
  set_up_few a b l = simp (a, b, lt-leb _ _ l)

  -- all three are passed
  pub set_up-passes : good_exponent s ≡ true → good_length (length x.image) ≡ true → used_entries s (length x.image) ≤ length x.table → set_up_checks s x ≡ Ok 0
  unfolding set_up_checks
  set_up-passes a b l = simp (a, b, le-leb _ _ l)

  -- a refusal leaves all as it was
  pub set_up_declined : (r : Refusal) → set_up_checks s x ≡ Err r → set_up s x ≡ outcome (Err r) x.image x.table
  unfolding set_up
  set_up_declined r e = rw e

  -- otherwise the image is fresh, and the used entries are zero
  pub set_up_done : (v : ℕ) → set_up_checks s x ≡ Ok v
      → set_up s x ≡ outcome (Ok 0) (fresh s (length x.image)) (cleared s (length x.image) x.table)
  unfolding set_up
  set_up_done v e = rw e

-- what an accepted set-up was given, and what it leaves
pub set_up-accepted : (s : ℕ) (x : State) → IsAccepted (set_up s x)
    → Settable s x
    × (set_up s x ≡ outcome (Ok 0) (fresh s (length x.image)) (cleared s (length x.image) x.table))
set_up-accepted s x e = go (set_up_checks s x) refl
  where
    go : (a : Answer) → set_up_checks s x ≡ a
        → Settable s x
        × (set_up s x ≡ outcome (Ok 0) (fresh s (length x.image)) (cleared s (length x.image) x.table))
    go (Ok v) q = (settable_parts s x v q, set_up_done s x v q)
    go (Err r) q = absurd (not-accepted r (sym (set_up_declined s x r q)) e)

-- it looks at the lengths alone
checks_lengths : (s : ℕ) (x y : State) → length y.image ≡ length x.image → length y.table ≡ length x.table → set_up_checks s y ≡ set_up_checks s x
unfolding set_up_checks
checks_lengths s x y p q = rw (p, q)

pub set_up_lengths : (s : ℕ) (x y : State) → length y.image ≡ length x.image → length y.table ≡ length x.table
    → IsAccepted (set_up s x) → IsAccepted (set_up s y)
set_up_lengths s x y p q e = go (set_up_checks s x) refl
  where
    go : (a : Answer) → set_up_checks s x ≡ a → IsAccepted (set_up s y)
    go (Ok v) c = ap (λ (o : Outcome). returned o.answer) (set_up_done s y v (checks_lengths s x y p q ∙ c))
    go (Err r) c = absurd (not-accepted r (sym (set_up_declined s x r c)) e)

-- A fresh image.

module _ (s L : ℕ) where
  -- is as long as it is to be
  pub length-fresh : 32 ≤ L → length (fresh s L) ≡ L
  unfolding fresh
  length-fresh l = simp (length-append, length-superblock, length-header, length-replicate) (omega arith)

  -- begins with the superblock
  pub fresh_front : take 16 (fresh s L) ≡ superblock s L (L - 16)
  unfolding fresh
  fresh_front = take_at (superblock s L (L - 16)) _ 16 (length-superblock s L (L - 16))

  -- and has one free block of zeros behind it
  pub fresh_block : drop 16 (fresh s L) ≡ free_header (L - 16) ++ replicate (L - 32) 0
  unfolding fresh
  fresh_block = drop_at (superblock s L (L - 16)) _ 16 (length-superblock s L (L - 16))
