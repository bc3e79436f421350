-- Store: its rows, what is known where they are passed, and what it leaves. Assumes nothing.
use Rattle.std.specs.Prelude.{ℕ, ◌^◌, ◌<◌, ◌≡◌, refl, true, false, Bool, ltb, Err, Ok}
use Rattle.std.proofs.Common.{sym, ◌∙◌, ltb-true, lt-ltb}
use Rattle.frame.specs.Pointers.{unpack}
use Rattle.block.specs.Bytes.{encode, put}
use Rattle.store.specs.State.{State, outcome, demand, refuse}
use Rattle.store.specs.Calls.{opening, accessed, good_width, store_checks, store}
use Rattle.store.specs.laws.Refusals.{demand_met, and_then_met}
use Rattle.store.specs.laws.Opening.{Open, opening_parts}
use Rattle.store.specs.laws.Access.{Accessed, accessed_parts, through}
use Rattle.store.specs.declared.answer.Refusal.{Refusal}
use Rattle.store.specs.declared.answer.Refusal.TheVariants.{BadWidth, TooLarge, OutOfBounds}

module _ (x : State) (s : ℕ) (e : opening x ≡ Ok s) where
  module _ (word width v : ℕ) where
    -- row 14
    pub store_width : good_width width ≡ false → Err BadWidth ≡ store_checks word width v x
    unfolding store_checks
    store_width w = rw (e, w)

    -- row 16
    pub store-large : good_width width ≡ true → ltb v (256 ^ width) ≡ false → Err TooLarge ≡ store_checks word width v x
    unfolding store_checks
    store-large w l = rw (e, w, l)

    -- then rows 10, 11 and 13
    pub store_access : good_width width ≡ true → ltb v (256 ^ width) ≡ true → accessed s (unpack word) width x ≡ store_checks word width v x
    unfolding store_checks
    store_access w l = rw (e, w, l)

  -- a byte has a good width and fits it
  pub store_byte : (word v : ℕ) → v < 256 → accessed s (unpack word) 1 x ≡ store_checks word 1 v x
  store_byte word v l = store_access word 1 v refl (lt-ltb v (256 ^ 1) l)

-- the rows of store are passed: the bytes from a on take the value
pub record Stores (word width v : ℕ) (x : State) (a : ℕ) : Type 0 where
  pub exponent : ℕ
  pub opens : Open x exponent
  pub good_width_lem : good_width width ≡ true
  pub fits : v < 256 ^ width
  pub bytes : Accessed exponent (unpack word) width x a

-- an accepted store passes them
pub store_parts : (word width v : ℕ) (x : State) (a : ℕ) → store_checks word width v x ≡ Ok a → Stores word width v x a
unfolding store_checks
store_parts word width v x a e =
    let (s, o, m) = and_then_met (opening x) _ a e in
    let w = demand_met (good_width width) BadWidth _ a m in
    let l = demand_met (ltb v (256 ^ width)) TooLarge _ a w.1 in
    record {
      exponent = s;
      opens = opening_parts x s o;
      good_width_lem = w.0;
      fits = ltb-true v (256 ^ width) l.0;
      bytes = accessed_parts s (unpack word) width x a l.1;
    }

-- a refused store leaves all as it was
pub store_declined : (word width v : ℕ) (x : State) (r : Refusal) → store_checks word width v x ≡ Err r → outcome (Err r) x.image x.table ≡ store word width v x
unfolding store
store_declined word width v x r e = rw e

-- an accepted one puts the value into the image
pub store_done : (word width v : ℕ) (x : State) (at : ℕ) → store_checks word width v x ≡ Ok at
    → outcome (Ok 0) (put x.image at (encode width v)) x.table ≡ store word width v x
unfolding store
store_done word width v x at e = rw e

-- What it comes to, where rows 4 and 5 are passed.

module _ (s : ℕ) (x : State) (o : opening x ≡ Ok s) where
  -- where the test of the bytes is known
  pub store-through : (p width v a : ℕ) (b : Bool) → good_width width ≡ true → ltb v (256 ^ width) ≡ true
      → accessed s (unpack p) width x ≡ demand b OutOfBounds (Ok a) → store p width v x ≡ through x 0 b a (encode width v)
  store-through p width v a true g l e = sym (store_done p width v x a (sym (store_access x s o p width v g l) ∙ e))
  store-through p width v a false g l e = sym (store_declined p width v x OutOfBounds (sym (store_access x s o p width v g l) ∙ e))

  -- a bad width
  pub store_refuses_width : (p width v : ℕ) → good_width width ≡ false → store p width v x ≡ refuse BadWidth x
  store_refuses_width p width v g = sym (store_declined p width v x BadWidth (sym (store_width x s o p width v g)))

  -- a value that is too large
  pub store_refuses_large : (p width v : ℕ) → good_width width ≡ true → ltb v (256 ^ width) ≡ false → store p width v x ≡ refuse TooLarge x
  store_refuses_large p width v g l = sym (store_declined p width v x TooLarge (sym (store-large x s o p width v g l)))
