-- Copy: its rows, what is known where they are passed, and what it leaves. Assumes nothing.
use Rattle.std.specs.Prelude.{ℕ, ◌≤◌, ◌<◌, ◌≡◌, true, false, ◌&&◌, Bool, ltb, take, drop, Err, Ok}
use Rattle.std.proofs.Common.{sym, ◌∙◌, subst, arith, lt-ltb, ltb-true, ltb-false}
use Rattle.frame.specs.Pointers.{unpack}
use Rattle.block.specs.Bytes.{put}
use Rattle.store.specs.State.{State, outcome, demand, refuse}
use Rattle.store.specs.Calls.{opening, accessed, copy_checks, copy}
use Rattle.store.specs.laws.Refusals.{demand_met, and_then_met}
use Rattle.store.specs.laws.Opening.{Open, opening_parts}
use Rattle.store.specs.laws.Access.{Accessed, accessed_parts, through}
use Rattle.store.specs.declared.answer.Refusal.{Refusal}
use Rattle.store.specs.declared.answer.Refusal.TheVariants.{Empty, OutOfBounds}

module _ (x : State) (s : ℕ) (e : opening x ≡ Ok s) where
  module _ (target source n : ℕ) where
    -- row 6
    pub copy_empty : n ≡ 0 → Err Empty ≡ copy_checks target source n x
    unfolding copy_checks
    copy_empty z = rw (e, z)

    module _ (l : 0 < n) where
      -- the target's rows 10, 11 and 13
      pub copy-refused : (r : Refusal) → accessed s (unpack target) n x ≡ Err r → Err r ≡ copy_checks target source n x
      unfolding copy_checks
      copy-refused r a = rw (e, lt-ltb 0 n l, a)

      -- then the source's
      pub copy_access : (at : ℕ) → accessed s (unpack target) n x ≡ Ok at → accessed s (unpack source) n x ≡ copy_checks target source n x
      unfolding copy_checks
      copy_access at a = rw (e, lt-ltb 0 n l, a)

-- the rows of copy are passed: n bytes go from a, the source's address, to the target's
pub record Copies (target source n : ℕ) (x : State) (a : ℕ) : Type 0 where
  pub exponent : ℕ
  pub opens : Open x exponent
  pub some : 0 < n
  pub to : Accessed exponent (unpack target) n x (unpack target).address
  pub from : Accessed exponent (unpack source) n x a

-- an accepted copy passes them
pub copy_parts : (target source n : ℕ) (x : State) (a : ℕ) → copy_checks target source n x ≡ Ok a → Copies target source n x a
unfolding copy_checks
copy_parts target source n x a e =
    let (s, o, m) = and_then_met (opening x) _ a e in
    let l = demand_met (ltb 0 n) Empty _ a m in
    let (b, u, v) = and_then_met (accessed s (unpack target) n x) _ a l.1 in
    let t = accessed_parts s (unpack target) n x b u in
    record {
      exponent = s;
      opens = opening_parts x s o;
      some = ltb-true 0 n l.0;
      to = subst (λ (c : ℕ). Accessed s (unpack target) n x c) t.address t;
      from = accessed_parts s (unpack source) n x a v;
    }

-- a refused copy leaves all as it was
pub copy_declined : (target source n : ℕ) (x : State) (r : Refusal) → copy_checks target source n x ≡ Err r
    → outcome (Err r) x.image x.table ≡ copy target source n x
unfolding copy
copy_declined target source n x r e = rw e

-- an accepted one puts the source's bytes at the target
pub copy_done : (target source n : ℕ) (x : State) (at : ℕ) → copy_checks target source n x ≡ Ok at
    → outcome (Ok 0) (put x.image (unpack target).address (take n (drop at x.image))) x.table ≡ copy target source n x
unfolding copy
copy_done target source n x at e = rw e

-- What it comes to, where rows 4 and 5 are passed.

module _ (s : ℕ) (x : State) (o : opening x ≡ Ok s) where
  -- where the tests of the bytes are known
  pub copy-through : (t p n a : ℕ) (b c : Bool) → ltb 0 n ≡ true → accessed s (unpack t) n x ≡ demand b OutOfBounds (Ok (unpack t).address)
      → accessed s (unpack p) n x ≡ demand c OutOfBounds (Ok a)
      → copy t p n x ≡ through x 0 (b && c) (unpack t).address (take n (drop a x.image))
  copy-through t p n a true true l e f = sym (copy_done t p n x a (sym (copy_access x s o t p n (ltb-true 0 n l) _ e) ∙ f))
  copy-through t p n a true false l e f = sym (copy_declined t p n x OutOfBounds (sym (copy_access x s o t p n (ltb-true 0 n l) _ e) ∙ f))
  copy-through t p n a false c l e f = sym (copy_declined t p n x OutOfBounds (sym (copy-refused x s o t p n (ltb-true 0 n l) OutOfBounds e)))

  -- no bytes
  pub copy_refuses_empty : (t p n : ℕ) → ltb 0 n ≡ false → copy t p n x ≡ refuse Empty x
  copy_refuses_empty t p n l =
      let z : n ≤ 0 = ltb-false 0 n l in
      sym (copy_declined t p n x Empty (sym (copy_empty x s o t p n (omega arith))))
