-- Load: its rows, and what it gives. Assumes nothing.
use Rattle.std.specs.Prelude.{ℕ, ◌≡◌, true, false, Bool, Err, Ok}
use Rattle.std.proofs.Common.{sym, ap, ◌∙◌}
use Rattle.std.proofs.Math.Path.{refl}
use Rattle.frame.specs.Pointers.{unpack}
use Rattle.block.specs.Bytes.{field}
use Rattle.store.specs.State.{State, demand}
use Rattle.store.specs.Calls.{opening, accessed, good_width, load_answer, load}
use Rattle.store.specs.declared.answer.Refusal.{Refusal}
use Rattle.store.specs.declared.answer.Refusal.TheVariants.{BadWidth, OutOfBounds}
use Rattle.store.specs.State.{Answer}

module _ (x : State) (s : ℕ) (e : opening x ≡ Ok s) where
  module _ (word width : ℕ) where
    -- row 14
    pub load_width : good_width width ≡ false → Err BadWidth ≡ load_answer word width x
    unfolding load_answer
    load_width w = rw (e, w)

    module _ (w : good_width width ≡ true) where
      -- rows 10, 11 and 13
      pub load-refused : (r : Refusal) → accessed s (unpack word) width x ≡ Err r → Err r ≡ load_answer word width x
      unfolding load_answer
      load-refused r a = rw (e, w, a)

      -- all are passed
      pub load_given : (at : ℕ) → accessed s (unpack word) width x ≡ Ok at → Ok (field x.image at width) ≡ load_answer word width x
      unfolding load_answer
      load_given at a = rw (e, w, a)

-- it leaves all as it was
pub load_leaves : (word width : ℕ) (x : State) → load word width x ≡ record { answer = load_answer word width x; after = x }
unfolding load
load_leaves word width x = refl

-- What it comes to, where rows 4 and 5 are passed.

module _ (s : ℕ) (x : State) (o : opening x ≡ Ok s) where
  -- where the test of the bytes is known
  pub load-through : (p width a : ℕ) (b : Bool) → good_width width ≡ true → accessed s (unpack p) width x ≡ demand b OutOfBounds (Ok a)
      → load p width x ≡ record { answer = demand b OutOfBounds (Ok (field x.image a width)); after = x }
  load-through p width a true g e =
      load_leaves p width x ∙ ap (λ (r : Answer). record { answer = r; after = x }) (sym (load_given x s o p width g a e))
  load-through p width a false g e =
      load_leaves p width x ∙ ap (λ (r : Answer). record { answer = r; after = x }) (sym (load-refused x s o p width g OutOfBounds e))
