-- The text at a pointer, by what reading its tag gave. Assumes nothing.
use Rattle.std.specs.Prelude.{◌≡◌, ℕ, ◌+◌, ◌-◌, ◌≤◌, ◌^◌, true, false, ◌&&◌, length, take, drop, pos, Option, Some, None, Ok, Err, refl, ok_or}
use Rattle.std.proofs.Common.{sym, ◌∙◌, arith}
use Rattle.std.specs.Int.Signed.{le_z}
use Rattle.frame.specs.declared.parts.Pointer.{Pointer}
use Rattle.block.specs.Layout.{size_at}
use Rattle.block.specs.Text.{text_of}
use Rattle.store.specs.State.{State}
use Rattle.store.specs.Calls.{opening, read_tag, text_answer, text_at}
use Rattle.store.specs.laws.Opening.{opening_parts}
use Rattle.store.specs.laws.TagReading.{FoundAt, read_found, located-inside}
use Rattle.store.specs.laws.Access.{body_range}
use Rattle.store.specs.laws.Distances.{found_body, found_remaining}
use Rattle.store.specs.laws.CopyText.{text_outside, text_within}
use Rattle.store.specs.declared.answer.Refusal.TheVariants.{OutOfBounds, Unterminated}
use Rattle.store.specs.declared.locate.Reading.{Reading}

-- row 20, as the code has it
pub text_or : (t : Option ℕ) → ok_or t Unterminated ≡ text_answer t
unfolding text_answer
text_or (Some n) = refl
text_or None = refl

-- the n bytes from the pointer's address to the end of the body
pub record BodyAhead (s : ℕ) (p : Pointer) (x : State) (o : Reading) : Type 0 where
  pub n : ℕ
  pub remaining : o.remaining ≡ pos n
  pub inside : p.address + n ≤ length x.image
  pub short : length x.image ≤ 2 ^ 30
  pub searched : text_answer (text_of (take n (drop p.address x.image))) ≡ text_at s p x

module _ (s : ℕ) (p : Pointer) (x : State) (o : Reading) (read : read_tag s p x ≡ Ok o) where
  found : FoundAt s p x o
  found = read_found s p x o read

  -- row 13
  pub text_out : le_z (pos 0) o.offset && le_z (pos 1) o.remaining ≡ false → Err OutOfBounds ≡ text_at s p x
  text_out e = text_outside s p x o.header found.tested (sym (found_body s p x o found 1) ∙ e)

  -- row 13 is passed
  pub body_ahead : opening x ≡ Ok s → le_z (pos 0) o.offset && le_z (pos 1) o.remaining ≡ true → BodyAhead s p x o
  body_ahead opens e =
      let h : ℕ = o.header in
      let passed = sym (found_body s p x o found 1) ∙ e in
      let (low, first) = body_range x.image h p 1 passed in
      let inside = located-inside s p x h found.object in
      record {
        n = h + 16 + size_at x.image h - p.address;
        remaining = found_remaining s p x o found (omega (arith, first));
        inside = omega (arith, first, inside);
        short = (opening_parts x s opens).short;
        searched = text_within s p x h found.tested passed;
      }
