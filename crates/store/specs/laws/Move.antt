-- Move: its rows, on the parts of a pointer and on an image and table. Assumes nothing.
use Rattle.std.specs.Prelude.{ℕ, ◌≡◌, refl, true, false, ℤ, Err, None, Ok, Some}
use Rattle.std.proofs.Common.{sym, ap, ◌∙◌}
use Rattle.frame.specs.Pointers.{unpack, pack, good_tag, reach, moved}
use Rattle.frame.specs.declared.parts.Pointer.{Pointer}
use Rattle.store.specs.State.{State}
use Rattle.store.specs.Calls.{opening, moved_answer, moved_by, move_answer, move}
use Rattle.store.specs.declared.answer.Refusal.TheVariants.{BadTag, Leaves}
use Rattle.store.specs.State.{Answer}

module _ (s : ℕ) (p : Pointer) (d : ℤ) where
  -- row 10
  pub moved_bad : good_tag s p ≡ false → Err BadTag ≡ moved_by s p d
  moved_bad g = rw g

  -- row 12
  pub moved_out : good_tag s p ≡ true → moved p (reach s p) d ≡ None → Err Leaves ≡ moved_by s p d
  unfolding moved_answer
  moved_out g e = rw (g, e)

  -- both are passed
  pub moved_in : (q : Pointer) → good_tag s p ≡ true → moved p (reach s p) d ≡ Some q → Ok (pack q) ≡ moved_by s p d
  unfolding moved_answer
  moved_in q g e = rw (g, e)

module _ (x : State) (s : ℕ) (e : opening x ≡ Ok s) where
  -- row 10, then 12
  pub move_answer_lem : (word : ℕ) (d : ℤ) → moved_by s (unpack word) d ≡ move_answer word d x
  unfolding move_answer
  move_answer_lem word d = rw e

-- it leaves all as it was
pub move_leaves : (word : ℕ) (d : ℤ) (x : State) → move word d x ≡ record { answer = move_answer word d x; after = x }
unfolding move
move_leaves word d x = refl

-- What it comes to, where rows 4 and 5 are passed.

module _ (s : ℕ) (x : State) (o : opening x ≡ Ok s) where
  -- its answer is that of the pointer's parts
  pub move-outcome : (p : ℕ) (d : ℤ) → move p d x ≡ record { answer = moved_by s (unpack p) d; after = x }
  move-outcome p d = move_leaves p d x ∙ ap (λ (a : Answer). record { answer = a; after = x }) (sym (move_answer_lem x s o p d))
