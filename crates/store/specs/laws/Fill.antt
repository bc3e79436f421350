-- Fill: its rows, what is known where they are passed, and what it leaves. Assumes nothing.
use Rattle.std.specs.Prelude.{ℕ, ◌≤◌, ◌<◌, ◌≡◌, true, false, Bool, ltb, replicate, Err, Ok}
use Rattle.std.proofs.Common.{sym, ◌∙◌, arith, lt-ltb, ltb-true, ltb-false}
use Rattle.frame.specs.Pointers.{unpack}
use Rattle.block.specs.Bytes.{put}
use Rattle.store.specs.State.{State, outcome, demand, refuse}
use Rattle.store.specs.Calls.{opening, accessed, fill_checks, fill}
use Rattle.store.specs.laws.Refusals.{demand_met, and_then_met}
use Rattle.store.specs.laws.Opening.{Open, opening_parts}
use Rattle.store.specs.laws.Access.{Accessed, accessed_parts, through}
use Rattle.store.specs.declared.answer.Refusal.{Refusal}
use Rattle.store.specs.declared.answer.Refusal.TheVariants.{Empty, OutOfBounds}

module _ (x : State) (s : ℕ) (e : opening x ≡ Ok s) where
  module _ (word n : ℕ) where
    -- row 6
    pub fill_empty : n ≡ 0 → Err Empty ≡ fill_checks word n x
    unfolding fill_checks
    fill_empty z = rw (e, z)

    -- then rows 10, 11 and 13
    pub fill_access : 0 < n → accessed s (unpack word) n x ≡ fill_checks word n x
    unfolding fill_checks
    fill_access l = rw (e, lt-ltb 0 n l)

-- the rows of fill are passed: n bytes from a on take the value
pub record Fills (word n : ℕ) (x : State) (a : ℕ) : Type 0 where
  pub exponent : ℕ
  pub opens : Open x exponent
  pub some : 0 < n
  pub bytes : Accessed exponent (unpack word) n x a

-- an accepted fill passes them
pub fill_parts : (word n : ℕ) (x : State) (a : ℕ) → fill_checks word n x ≡ Ok a → Fills word n x a
unfolding fill_checks
fill_parts word n x a e =
    let (s, o, m) = and_then_met (opening x) _ a e in
    let l = demand_met (ltb 0 n) Empty _ a m in
    record {
      exponent = s;
      opens = opening_parts x s o;
      some = ltb-true 0 n l.0;
      bytes = accessed_parts s (unpack word) n x a l.1;
    }

-- a refused fill leaves all as it was
pub fill_declined : (word n byte : ℕ) (x : State) (r : Refusal) → fill_checks word n x ≡ Err r → outcome (Err r) x.image x.table ≡ fill word n byte x
unfolding fill
fill_declined word n byte x r e = rw e

-- an accepted one puts the byte n times into the image
pub fill_done : (word n byte : ℕ) (x : State) (at : ℕ) → fill_checks word n x ≡ Ok at
    → outcome (Ok 0) (put x.image at (replicate n byte)) x.table ≡ fill word n byte x
unfolding fill
fill_done word n byte x at e = rw e

-- What it comes to, where rows 4 and 5 are passed.

module _ (s : ℕ) (x : State) (o : opening x ≡ Ok s) where
  -- where the test of the bytes is known
  pub fill-through : (p n byte a : ℕ) (b : Bool) → ltb 0 n ≡ true → accessed s (unpack p) n x ≡ demand b OutOfBounds (Ok a)
      → fill p n byte x ≡ through x 0 b a (replicate n byte)
  fill-through p n byte a true l e = sym (fill_done p n byte x a (sym (fill_access x s o p n (ltb-true 0 n l)) ∙ e))
  fill-through p n byte a false l e = sym (fill_declined p n byte x OutOfBounds (sym (fill_access x s o p n (ltb-true 0 n l)) ∙ e))

  -- no bytes
  pub fill_refuses_empty : (p n byte : ℕ) → ltb 0 n ≡ false → fill p n byte x ≡ refuse Empty x
  fill_refuses_empty p n byte l =
      let z : n ≤ 0 = ltb-false 0 n l in
      sym (fill_declined p n byte x Empty (sym (fill_empty x s o p n (omega arith))))
