-- The ways through the test of a tag, by what the code has: the two ends of the object. Assumes nothing.
use Rattle.std.proofs.Common.{◌≡◌, ℕ, ◌-◌, ◌≤◌, ◌<◌, nat_le, Bool, true, false, ◌&&◌, not, eqb, sym, ◌∙◌}
use Rattle.std.proofs.lemmas.Bool.{leb-true, leb-false}
use Rattle.frame.specs.Frame.{frame_start, same_frame}
use Rattle.frame.specs.Pointers.{good_tag}
use Rattle.frame.specs.Tags.{first_held, last_held, wrapper, tag_matches}
use Rattle.frame.specs.laws.Tags.{small_test, tag_test_lem}
use Rattle.frame.specs.declared.parts.Pointer.{Pointer}

module _ (h size : ℕ) {a e : ℕ} (first : a ≡ first_held h) (last : e ≡ last_held h size) where
  tested : (n : ℕ) (b : Bool) → b ≡ same_frame n a e → nat_le (wrapper h size) n ≡ b
  tested n b t =
      let u : b ≡ same_frame n (first_held h) (last_held h size) = rw (first, last) at t in
      small_test n h size ∙ sym u

  -- both in one frame, or not
  pub small : {n : ℕ} → true ≡ same_frame n a e → wrapper h size ≤ n
  small {n} t = leb-true _ _ (tested n true t)

  pub large : {n : ℕ} → false ≡ same_frame n a e → n < wrapper h size
  large {n} t = leb-false _ _ (tested n false t)

  module _ (s : ℕ) (p : Pointer) (good : good_tag s p ≡ true) where
    -- flagged: one slot holds both, and the place in it is the tag number
    pub flagged : p.flag ≡ true → tag_matches s h size p ≡ same_frame s a e && eqb (h - frame_start s h) p.tag
    flagged f = rw (tag_test_lem s h size p good, f, first, last)

    -- not: the frame holds both, and no frame of half its size does
    pub framed : p.flag ≡ false → tag_matches s h size p ≡ same_frame p.tag a e && not (same_frame (p.tag - 1) a e)
    framed f = rw (tag_test_lem s h size p good, f, first, last)
