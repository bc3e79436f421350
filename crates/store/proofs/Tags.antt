-- Reading a tag by what the code tests of it: in place of the header, the size of the object that its place leads to. Assumes nothing.
use Rattle.std.specs.Prelude.{◌≡◌, ℕ, ◌+◌, ◌≤◌, ◌<◌, true, false, List, length, get_or, Some, None, Ok, Err, Result}
use Rattle.std.proofs.Common.{◌∙◌, ap, sym, arith}
use Rattle.frame.specs.Frame.{frame_start}
use Rattle.frame.specs.Pointers.{good_tag}
use Rattle.frame.specs.Tags.{entry_at}
use Rattle.frame.specs.laws.Pointers.{reach-large}
use Rattle.frame.specs.laws.Tags.{slot_holds, frame_holds}
use Rattle.frame.specs.declared.parts.Pointer.{Pointer}
use Rattle.block.specs.laws.Soundness.{sound-end, sound_live, object_at, object_is}
use Rattle.store.specs.State.{State}
use Rattle.store.specs.Calls.{reading, read_tag, accessed, found_at, header_place}
use Rattle.store.specs.laws.TagReading.{place_small, place-large, bad_tag, starts_past, led_nowhere, led_small, led-large}
use Rattle.store.specs.laws.Access.{reached_by, reached_by_lem}
use Rattle.store.specs.declared.answer.Refusal.{Refusal}
use Rattle.store.specs.declared.locate.Reading.{Reading}
use Rattle.store.specs.declared.answer.Refusal.TheVariants.{BadTag, Dangling}

-- an object lies in its image
pub object_inside : (image : List ℕ) (h size : ℕ) → object_at image h ≡ Some size → h + 16 + size ≤ length image
object_inside image h size e =
    let (so, li, n) = object_is image h size e in
    omega (arith, n, (sound_live image h so li).holds, sound-end image h so)

module _ (s : ℕ) (p : Pointer) (x : State) where
  -- row 10
  pub tag_bad : good_tag s p ≡ false → Err BadTag ≡ read_tag s p x
  unfolding read_tag found_at
  tag_bad e = rw (← bad_tag s p x e)

  module _ (good : good_tag s p ≡ true) where
    module _ (small : p.flag ≡ true) (h : ℕ) (place : h ≡ frame_start s p.address + p.tag) where
      -- where the tag leads
      there : h ≡ header_place s p x.table
      there = place ∙ place_small s p x.table small

      -- row 11: no object
      pub slot_empty : object_at x.image h ≡ None → Err Dangling ≡ read_tag s p x
      unfolding read_tag found_at
      slot_empty e = rw (← led_nowhere s p x good h there e)

      module _ (size : ℕ) (object : object_at x.image h ≡ Some size) where
        -- row 11: the object is not all in the slot
        pub slot_left : slot_holds s size p ≡ false → Err Dangling ≡ read_tag s p x
        unfolding read_tag found_at
        slot_left e = rw (← led_small s p x good h there size small object, e)

        -- the object
        pub slot_object : slot_holds s size p ≡ true → Ok (reading h size p) ≡ read_tag s p x
        unfolding read_tag found_at
        slot_object e = rw (← led_small s p x good h there size small object, e, (object_is x.image h size object).2)

    module _ (large : p.flag ≡ false) where
      -- row 11: the frame starts past the image
      pub frame_past : length x.image ≤ frame_start p.tag p.address → Err Dangling ≡ read_tag s p x
      unfolding read_tag found_at
      frame_past l = rw (← starts_past s p x good (rw (reach-large s p large) l))

      module _ (h : ℕ) (place : h ≡ get_or x.table (entry_at s p.tag p.address) 0) where
        -- where the tag leads
        held : h ≡ header_place s p x.table
        held = place ∙ place-large s p x.table large

        -- row 11: no object
        pub frame_empty : object_at x.image h ≡ None → Err Dangling ≡ read_tag s p x
        unfolding read_tag found_at
        frame_empty e = rw (← led_nowhere s p x good h held e)

        module _ (size : ℕ) (starts : frame_start p.tag p.address < length x.image) (object : object_at x.image h ≡ Some size) where
          -- row 11: the object is not in both halves of the frame
          pub frame_left : frame_holds h size p ≡ false → Err Dangling ≡ read_tag s p x
          unfolding read_tag found_at
          frame_left e = rw (← led-large s p x good h held size large starts object, e)

          -- the object
          pub frame_object : frame_holds h size p ≡ true → Ok (reading h size p) ≡ read_tag s p x
          unfolding read_tag found_at
          frame_object e = rw (← led-large s p x good h held size large starts object, e, (object_is x.image h size object).2)

-- Bytes through a pointer, by what reading its tag gave.

module _ (s : ℕ) (p : Pointer) (n : ℕ) (x : State) where
  -- row 10 or 11
  pub access_refused : (r : Refusal) → read_tag s p x ≡ Err r → Err r ≡ accessed s p n x
  unfolding reached_by
  access_refused r e = sym (ap (λ (f : Result Reading Refusal). reached_by f p n) e) ∙ reached_by_lem s p n x

  -- row 13, or the address
  pub access_reached : (o : Reading) → read_tag s p x ≡ Ok o → reached_by (Ok o) p n ≡ accessed s p n x
  access_reached o e = sym (ap (λ (f : Result Reading Refusal). reached_by f p n) e) ∙ reached_by_lem s p n x
