-- Sound headers: taken apart, and how a header is sound. Assumes nothing.
use Rattle.std.proofs.lemmas.Bool.{lt-leb}
use Rattle.std.specs.Prelude.{◌≡◌, ℕ, ◌+◌, ◌<◌, ◌≤◌, Bool, true, false, cond, ◌&&◌, ◌⊎◌, List, length, ◌==◌, ◌≢◌, nat_le, None, Option, Some}
use Rattle.std.proofs.Math.Path.{refl}
use Rattle.std.proofs.Common.{ap, ◌∙◌, ⊎_elim, inl, inr, arith, le-leb, eq-eqb, ne_eqb, leb-true, eqb-true}
use Rattle.std.proofs.Math.Bool.{and-false}
use Rattle.block.specs.laws.Booleans.{by_bool, and_left, and_right}
use Rattle.block.specs.Layout.{fields, header_at, extent_at, kind_at, size_at, is_live, free_formed, live_formed, well_formed, sound}
use Rattle.block.specs.declared.header.Header.{Header}

-- well-formed headers, taken apart

-- what a free header says
pub record Free (d : Header) : Type 0 where
  pub is_kind : d.kind ≡ 1
  pub no_type : d.ty ≡ 0
  pub no_size : d.size ≡ 0
  pub no_cue : d.cue ≡ 0

-- what a live header says
pub record Live (d : Header) : Type 0 where
  pub is_kind : d.kind ≡ 2
  pub holds : 16 + d.size ≤ d.extent
  pub tight : d.extent ≤ 31 + d.size

-- what a well-formed header says
pub record WellFormed (L h : ℕ) (d : Header) : Type 0 where
  pub long : 16 ≤ d.extent
  pub inside : h + d.extent ≤ L
  pub kinds : Free d ⊎ Live d

module _ (L h : ℕ) (d : Header) where
  well_formed_kinds : (b : Bool) → (d.kind == 1) ≡ b → cond b (free_formed d) (live_formed d) ≡ true → Free d ⊎ Live d
  well_formed_kinds true p e =
      let r = and_right (d.ty == 0) _ e in
      inl
      (record {
        is_kind = eqb-true _ _ p;
        no_type = eqb-true _ _ (and_left _ _ e);
        no_size = eqb-true _ _ (and_left _ _ r);
        no_cue = eqb-true _ _ (and_right (d.size == 0) _ r);
      })
  well_formed_kinds false p e =
      let r = and_right (d.kind == 2) _ e in
      inr
      (record {
        is_kind = eqb-true _ _ (and_left _ _ e);
        holds = leb-true _ _ (and_left _ _ r);
        tight = leb-true _ _ (and_right (nat_le (16 + d.size) d.extent) _ r);
      })

  -- taken apart
  pub well_formed_parts : well_formed L h d ≡ true → WellFormed L h d
  unfolding well_formed
  well_formed_parts e =
      let r = and_right (nat_le 16 d.extent) _ e in
      record {
        long = leb-true _ _ (and_left _ _ e);
        inside = leb-true _ _ (and_left _ _ r);
        kinds = well_formed_kinds (d.kind == 1) refl (and_right (nat_le (h + d.extent) L) _ r);
      }

  -- and put together
  pub well_formed-free : 16 ≤ d.extent → h + d.extent ≤ L → Free d → well_formed L h d ≡ true
  unfolding well_formed
  well_formed-free a b f =
      simp (le-leb _ _ a, le-leb _ _ b, eq-eqb _ _ f.is_kind, eq-eqb _ _ f.no_type, eq-eqb _ _ f.no_size, eq-eqb _ _ f.no_cue)

  pub well_formed_live : h + d.extent ≤ L → Live d → well_formed L h d ≡ true
  unfolding well_formed
  well_formed_live b f =
      simp (
        le-leb 16 d.extent (omega arith),
        le-leb _ _ b,
        ne_eqb d.kind 1 (omega arith),
        eq-eqb _ _ f.is_kind,
        le-leb _ _ f.holds,
        le-leb _ _ f.tight,
      )

-- sound headers, taken apart

module _ (image : List ℕ) (h : ℕ) (e : sound image h ≡ true) where
  -- no header stands in the superblock
  pub sound_low : 16 ≤ h
  unfolding sound
  sound_low = leb-true _ _ (and_left _ _ e)

  -- all of the header lies in the image
  pub sound_in : h + 16 ≤ length image
  unfolding sound
  sound_in = leb-true _ _ (and_left _ _ (and_right (nat_le 16 h) _ e))

  -- its fields are well-formed
  pub sound_formed : WellFormed (length image) h (header_at image h)
  unfolding sound
  sound_formed = well_formed_parts (length image) h (header_at image h) (and_right (nat_le (h + 16) (length image)) _ (and_right (nat_le 16 h) _ e))

  -- the extent includes the header
  pub sound-extent : 16 ≤ extent_at image h
  sound-extent = sound_formed.long

  -- the block ends in the image
  pub sound-end : h + extent_at image h ≤ length image
  sound-end = sound_formed.inside

  -- the block is free or live
  pub sound_kinds : Free (header_at image h) ⊎ Live (header_at image h)
  sound_kinds = sound_formed.kinds

  -- a live block has its size in its extent, and at most 15 bytes more
  pub sound_live : is_live image h ≡ true → Live (header_at image h)
  sound_live k =
      let f : kind_at image h ≡ 2 = eqb-true _ _ k in
      ⊎_elim (λ (x : Free (header_at image h)). let z = x.is_kind in absurd (omega arith)) (λ x. x) sound_kinds

-- and put together
module _ (image : List ℕ) (h : ℕ) where
  -- where there is room for a header, its fields decide
  pub sound_by : 16 ≤ h → h + 16 ≤ length image → sound image h ≡ well_formed (length image) h (header_at image h)
  unfolding sound
  sound_by p q = simp (le-leb _ _ p, le-leb _ _ q)

  -- the length and the header decide
  pub sound-same : (other : List ℕ) → length other ≡ length image → header_at other h ≡ header_at image h → sound other h ≡ sound image h
  unfolding sound
  sound-same other l e = rw (l, e) refl

  -- a free block with room for its extent
  pub sound-free-at : (e : ℕ) → header_at image h ≡ fields e 1 0 0 0 → 16 ≤ h → 16 ≤ e → h + e ≤ length image → sound image h ≡ true
  sound-free-at e d p a b =
      sound_by p (omega arith)
      ∙ ap (well_formed (length image) h) d
      ∙ well_formed-free (length image) h (fields e 1 0 0 0) a b (record { is_kind = refl; no_type = refl; no_size = refl; no_cue = refl })

  -- a live block with room for its extent, whatever its cue
  pub sound_live_at : (e t s c : ℕ) → header_at image h ≡ fields e 2 t s c → 16 ≤ h → h + e ≤ length image → 16 + s ≤ e → e ≤ 31 + s → sound image h ≡ true
  sound_live_at e t s c d p b a u =
      sound_by p (omega arith)
      ∙ ap (well_formed (length image) h) d
      ∙ well_formed_live (length image) h (fields e 2 t s c) b (record { is_kind = refl; holds = a; tight = u })

  -- a place without room for a header
  pub unsound_low : h < 16 → sound image h ≡ false
  unfolding sound
  unsound_low p = simp (lt-leb _ _ p)

  pub unsound_past : length image < h + 16 → sound image h ≡ false
  unfolding sound
  unsound_past p = simp (and-false, lt-leb _ _ p)

  -- a header that is neither free nor live, whatever its other fields
  pub unsound_kind : (kind_at image h ≢ 1) → (kind_at image h ≢ 2) → sound image h ≡ false
  unfolding well_formed sound
  unsound_kind f l = simp (ne_eqb _ _ f, ne_eqb _ _ l, and-false)

-- what `live_size` answers
unfoldable pub object_at : List ℕ → ℕ → Option ℕ
object_at image h = cond (sound image h && is_live image h) (Some (size_at image h)) None

-- a sound header of a live block
pub object_live : (image : List ℕ) (h : ℕ) → sound image h ≡ true → kind_at image h ≡ 2 → object_at image h ≡ Some (size_at image h)
unfolding object_at
object_live image h e k = rw (e, eq-eqb (kind_at image h) 2 k)

-- none
pub object_none : (image : List ℕ) (h : ℕ) → sound image h && is_live image h ≡ false → object_at image h ≡ None
unfolding object_at
object_none image h e = rw e

pub object_unsound : (image : List ℕ) (h : ℕ) → sound image h ≡ false → object_at image h ≡ None
object_unsound image h e = object_none image h (rw e)

pub object_dead : (image : List ℕ) (h : ℕ) → (kind_at image h ≢ 2) → object_at image h ≡ None
object_dead image h n = object_none image h (rw (ne_eqb (kind_at image h) 2 n) (and-false (sound image h)))

-- and what its answer says
pub object_is : (image : List ℕ) (h size : ℕ) → object_at image h ≡ Some size → (sound image h ≡ true) × (is_live image h ≡ true) × (size ≡ size_at image h)
unfolding object_at
object_is image h size e =
    by_bool (sound image h && is_live image h)
    (λ t. let x : Some (size_at image h) ≡ Some size = rw t at e in (and_left _ (is_live image h) t, and_right (sound image h) _ t, (cc)))
    (λ t. let x : None ≡ Some size = rw t at e in cc)

pub object_is_none : (image : List ℕ) (h : ℕ) → object_at image h ≡ None → sound image h && is_live image h ≡ false
unfolding object_at
object_is_none image h e =
    by_bool (sound image h && is_live image h)
    (λ t. let x : Some (size_at image h) ≡ None = rw t at e in cc)
    (λ t. t)

-- what `examine` answers
unfoldable pub examined : List ℕ → ℕ → Option Header
examined image h = cond (sound image h) (Some (header_at image h)) None

-- what examining answers
pub examined-sound : (image : List ℕ) (h : ℕ) → sound image h ≡ true → examined image h ≡ Some (header_at image h)
unfolding examined
examined-sound image h e = simp e

pub examined_unsound : (image : List ℕ) (h : ℕ) → sound image h ≡ false → examined image h ≡ None
unfolding examined
examined_unsound image h e = simp e

-- and what its answer says
pub examined_is_sound : (image : List ℕ) (h : ℕ) (d : Header) → examined image h ≡ Some d → (sound image h ≡ true) × (d ≡ header_at image h)
examined_is_sound image h d e =
    by_bool (sound image h)
    (λ t. let x : examined image h ≡ Some (header_at image h) = examined-sound image h t in (t, (cc)))
    (λ t. let x : examined image h ≡ None = examined_unsound image h t in cc)

pub examined_is_unsound : (image : List ℕ) (h : ℕ) → examined image h ≡ None → sound image h ≡ false
examined_is_unsound image h e =
    by_bool (sound image h)
    (λ t. let x : examined image h ≡ Some (header_at image h) = examined-sound image h t in cc)
    (λ t. t)
