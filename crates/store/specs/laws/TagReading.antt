-- Reading a tag: rows 10 and 11.
-- In order: what is known where they are passed, how they are passed, what a write keeps, that an object's pointers lead to it, each way out. Assumes nothing.
use Rattle.std.specs.Prelude.{ℕ, ◌+◌, ◌*◌, ◌/◌, ◌^◌, ◌≤◌, ◌<◌, ◌≡◌, Bool, true, false, ◌&&◌, List, ltb, eqb, length, get_or, Err, None, Ok, Some}
use Rattle.std.proofs.lemmas.Grind.{common_steps}
use Rattle.std.proofs.Common.{ap, ap₂, ◌∙◌, inl, div-mul-le_self, arith, lt-ltb, eq-eqb, ne_eqb, le-ltb}
use Rattle.std.proofs.Math.Path.{refl, sym}
use Rattle.std.proofs.Math.Bool.{and_assoc, and-true, and-false}
use Rattle.frame.specs.Frame.{frame_start, same_frame}
use Rattle.frame.specs.Pointers.{unpack, good_tag, reach, at}
use Rattle.frame.specs.Tags.{wrapper, pointer_to, entry_of, tag_matches, entry_at}
use Rattle.frame.specs.laws.Wrappers.{slot_leads, entry_same}
use Rattle.frame.specs.laws.Pointers.{good_small, reach_small, reach-large}
use Rattle.frame.specs.laws.Tags.{slot_holds, frame_holds, slot_near, slot_matches, frame_matches, pointer_small, pointer_large, reach_slot, reach-wrapper, by_frame}
use Rattle.frame.specs.laws.Objects.{PointerOf, same-reach, object_tag, object_matches}
use Rattle.frame.specs.declared.parts.Pointer.{Pointer}
use Rattle.block.specs.laws.Booleans.{by_bool}
use Rattle.block.specs.Bytes.{put}
use Rattle.block.specs.Layout.{header_at, sound, is_live, size_at, kind_at}
use Rattle.block.specs.laws.Writes.{length-put}
use Rattle.block.specs.laws.Headers.{header_at-put_other}
use Rattle.block.specs.laws.Soundness.{sound-same, sound_in, sound-end, sound_live, object_at, object_is, object_is_none}
use Rattle.block.specs.declared.header.Header.{Header}
use Rattle.store.specs.State.{State, state, refusal_number, demand}
use Rattle.store.specs.Calls.{header_place, verified, leads_back, located, reading, found_at, read_tag}
use Rattle.store.specs.laws.Refusals.{demand_met}
use Rattle.store.specs.declared.answer.Refusal.{Refusal}
use Rattle.store.specs.declared.answer.Refusal.TheVariants.{BadTag, Dangling}
use Rattle.store.specs.State.{Answer}
use Rattle.store.specs.declared.locate.Reading.{Reading}

-- the header at h is the one that the pointer was made for
pub record Verified (s : ℕ) (p : Pointer) (x : State) (h : ℕ) : Type 0 where
  pub is_sound : sound x.image h ≡ true
  pub is_live_lem : is_live x.image h ≡ true
  pub matches : tag_matches s h (size_at x.image h) p ≡ true
  pub near : h / 2 ^ reach s p ≡ p.address / 2 ^ reach s p

-- rows 10 and 11 are passed: the pointer leads to the header at h
pub record Located (s : ℕ) (p : Pointer) (x : State) (h : ℕ) : Type 0 where
  pub good : good_tag s p ≡ true
  pub starts : frame_start (reach s p) p.address < length x.image
  pub place : h ≡ header_place s p x.table
  pub header : Verified s p x h

pub located_parts : (s : ℕ) (p : Pointer) (x : State) (h : ℕ) → located s p x ≡ Ok h → Located s p x h
unfolding located leads_back verified
located_parts s p x h e =
    let a = demand_met (good_tag s p) BadTag _ h e in
    let b = demand_met (leads_back s p x) Dangling _ h a.1 in
    let q : h ≡ header_place s p x.table = cc in
    record {
      good = a.0;
      starts = grind (arith, common_steps);
      place = q;
      header =
          record {
            is_sound = grind (arith, common_steps);
            is_live_lem = grind (arith, common_steps);
            matches = grind (arith, common_steps);
            near = grind (arith, common_steps);
          };
    }

-- the object lies in the image
pub located-inside : (s : ℕ) (p : Pointer) (x : State) (h : ℕ) → Located s p x h → h + 16 + size_at x.image h ≤ length x.image
located-inside s p x h l =
    let v = l.header in
    omega (arith, (sound_live x.image h v.is_sound v.is_live_lem).holds, sound-end x.image h v.is_sound)

-- how row 11 is passed
pub located_leads : (s : ℕ) (p : Pointer) (x : State) (h : ℕ) → Located s p x h → leads_back s p x ≡ true
unfolding leads_back verified
located_leads s p x h l =
    let k = l.place in
    let v = l.header in
    rw (← k, lt-ltb _ _ l.starts, v.is_sound, v.is_live_lem, v.matches, eq-eqb _ _ v.near)

-- and both
pub located-at : (s : ℕ) (p : Pointer) (x : State) (h : ℕ) → Located s p x h → located s p x ≡ Ok h
unfolding located
located-at s p x h l = let k = l.place in rw (l.good, located_leads s p x h l, ← k)

-- where it is not found, row 10 or 11 refuses
pub located_refusal : (s : ℕ) (p : Pointer) (x : State) (r : Refusal) → located s p x ≡ Err r → (10 ≤ refusal_number r) × (refusal_number r ≤ 11)
unfolding located
located_refusal s p x r e =
    by_bool (good_tag s p)
    (λ g.
    by_bool (leads_back s p x)
    (λ l. let q : Ok (header_place s p x.table) ≡ Err r = rw (g, l) at e in cc)
    (λ l. let q : Err Dangling ≡ Err r = rw (g, l) at e in let w : Dangling ≡ r = cc in rw (← w) (omega arith, omega arith)))
    (λ g. let q : Err BadTag ≡ Err r = rw g at e in let w : BadTag ≡ r = cc in rw (← w) (omega arith, omega arith))

-- bytes replaced behind the header
pub located_kept : (s : ℕ) (p : Pointer) (x : State) (h at : ℕ) (bs : List ℕ) → Located s p x h → h + 16 ≤ at → at + length bs ≤ length x.image
    → Located s p (state (put x.image at bs) x.table) h
located_kept s p x h at bs l behind fits =
    let v = l.header in
    let long : length (put x.image at bs) ≡ length x.image = length-put x.image at bs fits in
    let same : header_at (put x.image at bs) h ≡ header_at x.image h = header_at-put_other x.image at bs h fits (inl behind) in
    record {
      good = l.good;
      starts = rw long l.starts;
      place = l.place;
      header = record {
        is_sound = sound-same x.image h (put x.image at bs) long same ∙ v.is_sound;
        is_live_lem = ap (λ (d : Header). eqb d.kind 2) same ∙ v.is_live_lem;
        matches = ap (λ (d : Header). tag_matches s h d.size p) same ∙ v.matches;
        near = v.near;
      };
    }

-- an object's pointer leads to its header from every address of its slot or wrapper frame
place_at : (s h size a : ℕ) (table : List ℕ) → a / 2 ^ reach s (pointer_to s h size) ≡ h / 2 ^ reach s (pointer_to s h size)
    → (s < wrapper h size → get_or table (entry_of s h size) 0 ≡ h) → header_place s (at (pointer_to s h size) a) table ≡ h
unfolding header_place
place_at s h size a table near entry =
    by_frame s h size
    (λ l. let n : a / 2 ^ s ≡ h / 2 ^ s = rw (reach_slot s h size l) at near in
    rw (pointer_small s h size l) (slot_leads s h a n))
    (λ l. let n : a / 2 ^ wrapper h size ≡ h / 2 ^ wrapper h size = rw (reach-wrapper s h size l) at near in
    rw (pointer_large s h size l) (ap (λ (j : ℕ). get_or table j 0) (entry_same s (wrapper h size) a h n) ∙ entry l))

-- a live object of `size` bytes with a sound header at h, and its place in its table entry where it is large-framed
pub record Stands (s : ℕ) (x : State) (h size : ℕ) : Type 0 where
  pub exponent : s ≤ 15
  pub inside : h + 16 + size ≤ length x.image
  pub short : length x.image ≤ 2 ^ 30
  pub is_sound : sound x.image h ≡ true
  pub is_live_lem : is_live x.image h ≡ true
  pub size_is : size_at x.image h ≡ size
  pub entry : s < wrapper h size → get_or x.table (entry_of s h size) 0 ≡ h

-- its pointers lead to it
pub located_object : (s : ℕ) (x : State) (h size word : ℕ) → Stands s x h size → PointerOf s h size word → Located s (unpack word) x h
located_object s x h size word o g =
    let n : ℕ = reach s (unpack word) in
    let near : (unpack word).address / 2 ^ n ≡ h / 2 ^ n = rw (same-reach s h size word g) g.near in
    record {
      good = object_tag s h size word o.exponent (omega (arith, o.inside, o.short)) g;
      starts = omega (arith, o.inside, ap (λ (q : ℕ). q * 2 ^ n) near, div-mul-le_self h (2 ^ n));
      place =
          sym (ap (λ (q : Pointer). header_place s q x.table) g.shape ∙ place_at s h size (unpack word).address x.table g.near o.entry);
      header = record {
        is_sound = o.is_sound;
        is_live_lem = o.is_live_lem;
        matches = ap (λ (k : ℕ). tag_matches s h k (unpack word)) o.size_is ∙ object_matches s h size word g;
        near = sym near;
      };
    }

-- The ways out.

-- the place that a tag leads to

module _ (s : ℕ) (p : Pointer) (table : List ℕ) where
  pub place_small : p.flag ≡ true → frame_start s p.address + p.tag ≡ header_place s p table
  unfolding header_place
  place_small f = rw f

  pub place-large : p.flag ≡ false → get_or table (entry_at s p.tag p.address) 0 ≡ header_place s p table
  unfolding header_place
  place-large f = rw f

-- the header there

module _ (s : ℕ) (p : Pointer) (image : List ℕ) (h : ℕ) where
  pub not_sound : sound image h ≡ false → verified s p image h ≡ false
  unfolding verified
  not_sound e = rw e

  module _ (so : sound image h ≡ true) where
    pub not_live : (kind_at image h ≡ 2 → ⊥) → verified s p image h ≡ false
    unfolding verified
    not_live n = rw (so, ne_eqb (kind_at image h) 2 n)

    module _ (k : kind_at image h ≡ 2) where
      pub no_match : tag_matches s h (size_at image h) p ≡ false → verified s p image h ≡ false
      unfolding verified
      no_match e = rw (so, eq-eqb (kind_at image h) 2 k, e)

      pub match : tag_matches s h (size_at image h) p ≡ true → verified s p image h ≡ same_frame (reach s p) h p.address
      unfolding verified
      match e = rw (so, eq-eqb (kind_at image h) 2 k, e)

  -- no object is verified
  pub not-verified : object_at image h ≡ None → verified s p image h ≡ false
  unfolding verified
  not-verified e =
      sym (and_assoc (sound image h) (is_live image h) (tag_matches s h (size_at image h) p && same_frame (reach s p) h p.address))
      ∙ rw (object_is_none image h e)

  -- an object is by its tag and place
  object_verified : (size : ℕ) → object_at image h ≡ Some size
      → verified s p image h ≡ tag_matches s h size p && same_frame (reach s p) h p.address
  unfolding verified
  object_verified size e = let (so, li, n) = object_is image h size e in rw (so, li, n) refl

-- rows 10 and 11

module _ (s : ℕ) (p : Pointer) (x : State) where
  pub bad_tag : good_tag s p ≡ false → Err BadTag ≡ located s p x
  unfolding located
  bad_tag e = rw e

  module _ (good : good_tag s p ≡ true) where
    pub starts_past : length x.image ≤ frame_start (reach s p) p.address → Err Dangling ≡ located s p x
    unfolding located leads_back
    starts_past l = rw (good, le-ltb _ _ l)

    pub starts_in : (h : ℕ) → frame_start (reach s p) p.address < length x.image → h ≡ header_place s p x.table
        → demand (verified s p x.image h) Dangling (Ok h) ≡ located s p x
    unfolding located leads_back
    starts_in h l e = rw (e, good, lt-ltb _ _ l) refl

    module _ (h : ℕ) (place : h ≡ header_place s p x.table) where
      -- no object is there
      pub led_nowhere : object_at x.image h ≡ None → Err Dangling ≡ located s p x
      unfolding located leads_back
      led_nowhere e = rw (good, ← place, not-verified s p x.image h e, and-false (ltb (frame_start (reach s p) p.address) (length x.image)))

      -- one is: its tag and place decide
      led : (size : ℕ) → frame_start (reach s p) p.address < length x.image → object_at x.image h ≡ Some size
          → demand (tag_matches s h size p && same_frame (reach s p) h p.address) Dangling (Ok h) ≡ located s p x
      unfolding located leads_back
      led size l e = rw (good, ← place, object_verified s p x.image h size e, lt-ltb _ _ l) refl

      -- small-framed: the slot starts before it, and holds it by construction
      pub led_small : (size : ℕ) → p.flag ≡ true → object_at x.image h ≡ Some size
          → demand (slot_holds s size p) Dangling (Ok h) ≡ located s p x
      led_small size f e =
          let at : h ≡ frame_start s p.address + p.tag = place ∙ sym (place_small s p x.table f) in
          let here : reach s p ≡ s = reach_small s p f in
          let in_image = sound_in x.image h (object_is x.image h size e).0 in
          let starts : frame_start (reach s p) p.address < length x.image = rw here (omega (arith, at, in_image)) in
          let near : same_frame (reach s p) h p.address ≡ true = rw (here, at) (eq-eqb _ _ (slot_near s p.address p.tag (good_small s p f good))) in
          let matches : tag_matches s h size p ≡ slot_holds s size p = rw at (slot_matches s size p f good) in
          ap (λ (b : Bool). demand b Dangling (Ok h)) (sym (and-true (slot_holds s size p)) ∙ ap₂ ◌&&◌ (sym matches) (sym near)) ∙ led size starts e

      -- large-framed: it reaches from half to half of the frame
      pub led-large : (size : ℕ) → p.flag ≡ false → frame_start p.tag p.address < length x.image → object_at x.image h ≡ Some size
          → demand (frame_holds h size p) Dangling (Ok h) ≡ located s p x
      led-large size f l e =
          let here : reach s p ≡ p.tag = reach-large s p f in
          let matches : frame_holds h size p ≡ tag_matches s h size p && same_frame (reach s p) h p.address = rw here (sym (frame_matches s h size p f good)) in
          ap (λ (b : Bool). demand b Dangling (Ok h)) matches ∙ led size (rw here l) e

-- What the tag reader answers.

-- the answers of the tests, by those of the reader

-- what it found
pub record FoundAt (s : ℕ) (p : Pointer) (x : State) (o : Reading) : Type 0 where
  pub tested : located s p x ≡ Ok o.header
  pub read : o ≡ reading o.header (size_at x.image o.header) p
  pub object : Located s p x o.header

pub read_found : (s : ℕ) (p : Pointer) (x : State) (o : Reading) → read_tag s p x ≡ Ok o → FoundAt s p x o
unfolding read_tag found_at
read_found s p x o e = go (located s p x) refl
  where
    go : (a : Answer) → located s p x ≡ a → FoundAt s p x o
    go (Ok h) q =
        let w : reading h (size_at x.image h) p ≡ o = cc in
        rw (← w) (record { tested = q; read = refl; object = located_parts s p x h q })
    go (Err r) q = cc

-- why it found nothing
pub read-refused : (s : ℕ) (p : Pointer) (x : State) (r : Refusal) → read_tag s p x ≡ Err r → located s p x ≡ Err r
unfolding read_tag found_at
read-refused s p x r e = go (located s p x) refl
  where
    go : (a : Answer) → located s p x ≡ a → located s p x ≡ Err r
    go (Ok h) q = cc
    go (Err t) q = let w : t ≡ r = cc in q ∙ ap Err w
