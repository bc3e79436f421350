-- A turn of a loop that walks: what is left of the walk, the header that was examined, and how the walk ends or goes on. Assumes nothing.
use Rattle.std.specs.Prelude.{◌≡◌, ℕ, ◌+◌, ◌≤◌, true, false, ◌⊎◌, List, length, ◌==◌, ◌≢◌, None, Option, Some}
use Rattle.std.proofs.Common.{sym, ap, ◌∙◌, subst, ⊎_elim, arith, eq-eqb, eqb-true}
use Rattle.std.proofs.lemmas.Bool.{eqb-false}
use Rattle.block.specs.laws.Booleans.{by_bool}
use Rattle.block.specs.Layout.{header_at, sound}
use Rattle.block.specs.laws.Soundness.{examined, Free, Live, sound_kinds, sound_live, sound-extent, sound-end, examined_is_sound, examined_is_unsound}
use Rattle.block.specs.Walk.{stopped, unsound, ended, Search, walk_from, walk}
use Rattle.block.specs.laws.Walks.{walk_begins, walk_ended, walk_unsound, walk_stopped, walk-next}
use Rattle.block.specs.declared.header.Header.{Header}

-- the loops' invariant: the walk from h on, with `a` gathered, is what is left of the whole walk
pub record Walking {A : Type 0} (s : Search A) (image : List ℕ) (first a : A) (h : ℕ) : Type 0 where
  pub rest : walk_from s image a h ≡ walk s image first

-- the header at h is d, and sound: its block ends inside the image, at least a header further on
pub record Seen (image : List ℕ) (h : ℕ) (d : Header) : Type 0 where
  pub is_sound : sound image h ≡ true
  pub is_header : d ≡ header_at image h
  pub inside : h + d.extent ≤ length image
  pub long : 16 ≤ d.extent

pub seen_at : (image : List ℕ) (h : ℕ) (d : Header) → examined image h ≡ Some d → Seen image h d
seen_at image h d e =
    let (o, r) = examined_is_sound image h d e in
    record {
      is_sound = o;
      is_header = r;
      inside = subst (λ (x : Header). h + x.extent ≤ length image) (sym r) (sound-end image h o);
      long = subst (λ (x : Header). 16 ≤ x.extent) (sym r) (sound-extent image h o);
    }

-- the same, of a header that was examined
pub seen : {image : List ℕ} {h : ℕ} {r : Option Header} {d : Header} → r ≡ examined image h → r ≡ Some d → Seen image h d
seen e i = seen_at _ _ _ (sym e ∙ i)

-- so a walk goes on, and not past the end
pub block_long : (image : List ℕ) (h : ℕ) (d : Header) → examined image h ≡ Some d → 16 ≤ d.extent
block_long image h d e = (seen_at image h d e).long

pub block_inside : (image : List ℕ) (h : ℕ) (d : Header) → examined image h ≡ Some d → h + d.extent ≤ length image
block_inside image h d e = (seen_at image h d e).inside

-- a live block holds its raw size
pub live_holds : {image : List ℕ} {h : ℕ} {d : Header} → Seen image h d → d.kind ≡ 2 → 16 + d.size ≤ d.extent
live_holds {image} {h} {d} e k =
    let l : Live d = subst Live (sym e.is_header) (sound_live image h e.is_sound (eq-eqb _ _ (ap (λ (x : Header). x.kind) (sym e.is_header) ∙ k))) in
    l.holds

-- a block that is not live has size 0
pub free_empty : {image : List ℕ} {h : ℕ} {d : Header} → Seen image h d → (d.kind ≢ 2) → d.size ≡ 0
free_empty {image} {h} {d} e k =
    ⊎_elim (λ (f : Free d). f.no_size) (λ (l : Live d). absurd (k l.is_kind))
    (subst (λ (x : Header). Free x ⊎ Live x) (sym e.is_header) (sound_kinds image h e.is_sound))

-- a size is at most its block's extent
pub size-inside : {image : List ℕ} {h : ℕ} {d : Header} → Seen image h d → d.size ≤ d.extent
size-inside {image} {h} {d} e =
    by_bool (d.kind == 2)
    (λ t. omega (arith, live_holds e (eqb-true _ _ t)))
    (λ t. omega (arith, free_empty e (eqb-false _ _ t)))

-- at 16 all of it is left
pub begins : {A : Type 0} (s : Search A) (image : List ℕ) (first : A) → Walking s image first first 16
begins s image first = record { rest = walk_begins s image first }

module _ {A : Type 0} {s : Search A} {image : List ℕ} {first a : A} {h : ℕ} (w : Walking s image first a h) where
  -- the walk ends: at the image's end, or at an unsound header
  pub at-end : h ≡ length image → ended a ≡ walk s image first
  at-end e = sym (walk_ended s image a h e) ∙ w.rest

  pub at_unsound : (h ≢ length image) → examined image h ≡ None → unsound h ≡ walk s image first
  at_unsound n e = sym (walk_unsound s image a h n (examined_is_unsound image h e)) ∙ w.rest

  module _ {d : Header} (e : Seen image h d) where
    -- or at a sound block that the search stops at; another is passed
    pub at_stop : s.stops h d ≡ true → stopped a h ≡ walk s image first
    at_stop t = sym (walk_stopped s image a h e.is_sound (ap (s.stops h) (sym e.is_header) ∙ t)) ∙ w.rest

    pub goes_on : s.stops h d ≡ false → Walking s image first (s.passes a h d) (h + d.extent)
    goes_on t =
        let step = walk-next s image a h e.is_sound (ap (s.stops h) (sym e.is_header) ∙ t) in
        record { rest = ap (λ (x : Header). walk_from s image (s.passes a h x) (h + x.extent)) e.is_header ∙ sym step ∙ w.rest }
