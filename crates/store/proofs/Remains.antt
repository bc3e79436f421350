-- What a release has still to free: the blocks from a place on, with the objects of its cue among them. Assumes nothing.
use Rattle.std.specs.Prelude.{ℕ, ◌+◌, ◌≤◌, ◌≡◌, refl, true, false, ◌||◌, List, [], ◌∷◌, leb, length}
use Rattle.std.proofs.Common.{sym, ap, ◌∙◌, subst, arith, le-leb, eq-eqb, ne_eqb}
use Rattle.std.proofs.lemmas.Bool.{lt-leb}
use Rattle.frame.specs.Pointers.{pack}
use Rattle.frame.specs.Tags.{pointer_to}
use Rattle.block.specs.laws.Booleans.{by_bool, true_false}
use Rattle.block.specs.Layout.{header_at, extent_at, kind_at, size_at, is_free, is_live, sound}
use Rattle.block.specs.laws.Soundness.{sound-same, sound_in, sound-end, sound_live}
use Rattle.block.specs.Walk.{is_of_cue}
use Rattle.block.specs.laws.Gathering.{cue_live}
use Rattle.block.specs.declared.header.Header.{Header}
use Rattle.store.specs.State.{State}
use Rattle.store.specs.Calls.{entry_holds, merge_end, extents_of, pointers_to}
use Rattle.store.specs.laws.Free.{merge_end_last, merge_end-free, merge_end_live}

-- the blocks of x from h on are sound to the image's end; those of the cue stand at these places, and each holds its entry
pub data Left (s cue : ℕ) (x : State) : ℕ → List ℕ → Type 0 where
  no_more : (h : ℕ) → h ≡ length x.image → Left s cue x h []
  passed :
      (h : ℕ) (hs : List ℕ) → sound x.image h ≡ true → is_of_cue cue (header_at x.image h) ≡ false
      → Left s cue x (h + extent_at x.image h) hs → Left s cue x h hs
  taken :
      (h : ℕ) (hs : List ℕ) → sound x.image h ≡ true → is_of_cue cue (header_at x.image h) ≡ true
      → entry_holds s h (size_at x.image h) h x.table ≡ true → Left s cue x (h + extent_at x.image h) hs → Left s cue x h (h ∷ hs)

-- a block of the cue is live, not free, and holds its size
module _ (cue : ℕ) (image : List ℕ) (h : ℕ) (t : is_of_cue cue (header_at image h) ≡ true) where
  pub of_cue_live : is_live image h ≡ true
  of_cue_live = eq-eqb _ _ (cue_live cue (header_at image h) t)

  of_cue-not-free : is_free image h ≡ false
  of_cue-not-free = let k = cue_live cue (header_at image h) t in ne_eqb (kind_at image h) 1 (omega arith)

  of_cue-inside : sound image h ≡ true → h + 16 + size_at image h ≤ h + extent_at image h
  of_cue-inside o = omega (arith, (sound_live image h o of_cue_live).holds)

-- the object at h is the first of the places, and holds its entry
pub record Taken (s cue : ℕ) (x : State) (h : ℕ) (hs : List ℕ) : Type 0 where
  pub rest : List ℕ
  pub places : hs ≡ h ∷ rest
  pub holds : entry_holds s h (size_at x.image h) h x.table ≡ true
  pub left : Left s cue x (h + extent_at x.image h) rest

module _ {s cue : ℕ} {x : State} where
  -- at the image's end nothing is left
  pub left-ends : {h : ℕ} {hs : List ℕ} → Left s cue x h hs → h ≡ length x.image → hs ≡ []
  left-ends (no_more h q) e = refl
  left-ends (passed h hs o t r) e = absurd (omega (arith, sound_in x.image h o))
  left-ends (taken h hs o t n r) e = absurd (omega (arith, sound_in x.image h o))

  -- below it stands a sound header
  pub left-sound : {h : ℕ} {hs : List ℕ} → Left s cue x h hs → (h ≡ length x.image → ⊥) → sound x.image h ≡ true
  left-sound (no_more h q) n = absurd (n q)
  left-sound (passed h hs o t r) n = o
  left-sound (taken h hs o t e r) n = o

  -- and no place is past it
  pub left_in : {h : ℕ} {hs : List ℕ} → Left s cue x h hs → h ≤ length x.image
  left_in (no_more h q) = omega arith
  left_in (passed h hs o t r) = omega (arith, sound_in x.image h o)
  left_in (taken h hs o t e r) = omega (arith, sound_in x.image h o)

  -- what free asks of the next header
  pub left_good : {h : ℕ} {hs : List ℕ} → Left s cue x h hs → leb (length x.image) h || sound x.image h ≡ true
  left_good (no_more h q) = rw (le-leb (length x.image) h (omega arith))
  left_good (passed h hs o t r) = let l = sound_in x.image h o in rw (lt-leb (length x.image) h (omega arith), o)
  left_good (taken h hs o t e r) = let l = sound_in x.image h o in rw (lt-leb (length x.image) h (omega arith), o)

  -- past a block that is not of the cue
  pub left_passed : {h : ℕ} {hs : List ℕ} → Left s cue x h hs → (h ≡ length x.image → ⊥) → is_of_cue cue (header_at x.image h) ≡ false
      → Left s cue x (h + extent_at x.image h) hs
  left_passed (no_more h q) n f = absurd (n q)
  left_passed (passed h hs o t r) n f = r
  left_passed (taken h hs o t e r) n f = absurd (true_false t f)

  -- past one that is
  pub left_taken : {h : ℕ} {hs : List ℕ} → Left s cue x h hs → (h ≡ length x.image → ⊥) → is_of_cue cue (header_at x.image h) ≡ true → Taken s cue x h hs
  left_taken (no_more h q) n f = absurd (n q)
  left_taken (passed h hs o t r) n f = absurd (true_false f t)
  left_taken (taken h hs o t e r) n f = record { rest = hs; places = refl; holds = e; left = r }

  -- a free block that the merging takes in is none of the places
  pub left-merged : {h : ℕ} {hs : List ℕ} → Left s cue x h hs → Left s cue x (merge_end x.image h) hs
  left-merged (no_more h q) = rw (merge_end_last x.image h (omega arith)) (no_more h q)
  left-merged (passed h hs o t r) =
      by_bool (is_free x.image h)
      (λ f. rw (merge_end-free x.image h (omega (arith, sound_in x.image h o)) f) r)
      (λ f. rw (merge_end_live x.image h f) (passed h hs o t r))
  left-merged (taken h hs o t e r) = rw (merge_end_live x.image h (of_cue-not-free cue x.image h t)) (taken h hs o t e r)

-- y differs from x only below `low`, and in entries of no object from there on
pub record SameFrom (s low : ℕ) (x y : State) : Type 0 where
  pub long : length y.image ≡ length x.image
  pub headers : (k : ℕ) → low ≤ k → header_at y.image k ≡ header_at x.image k
  pub entries :
      (k size : ℕ) → low ≤ k → k + 16 + size ≤ length x.image → entry_holds s k size k x.table ≡ true → entry_holds s k size k y.table ≡ true

module _ {s cue low : ℕ} {x y : State} (q : SameFrom s low x y) where
  -- then it has the same blocks left
  pub left-same : {h : ℕ} {hs : List ℕ} → low ≤ h → Left s cue x h hs → Left s cue y h hs
  left-same l (no_more h e) = no_more h (e ∙ sym q.long)
  left-same l (passed h hs o t r) =
      let e = q.headers h l in
      passed h hs (sound-same x.image h y.image q.long e ∙ o) (ap (is_of_cue cue) e ∙ t)
      (subst (λ (d : Header). Left s cue y (h + d.extent) hs) (sym e) (left-same (omega arith) r))
  left-same l (taken h hs o t n r) =
      let e = q.headers h l in
      let inside : h + 16 + size_at x.image h ≤ length x.image = omega (arith, of_cue-inside cue x.image h t o, sound-end x.image h o) in
      taken h hs (sound-same x.image h y.image q.long e ∙ o) (ap (is_of_cue cue) e ∙ t)
      (ap (λ (d : Header). entry_holds s h d.size h y.table) e ∙ q.entries h (size_at x.image h) l inside n)
      (subst (λ (d : Header). Left s cue y (h + d.extent) hs) (sym e) (left-same (omega arith) r))

  -- and the same pointers to them
  pub pointers_same : {h : ℕ} {hs : List ℕ} → low ≤ h → Left s cue x h hs → pointers_to s y.image hs ≡ pointers_to s x.image hs
  unfolding pointers_to
  pointers_same l (no_more h e) = refl
  pointers_same l (passed h hs o t r) = pointers_same (omega arith) r
  pointers_same l (taken h hs o t n r) =
      ap (λ (d : Header). pack (pointer_to s h d.size) ∷ pointers_to s y.image hs) (q.headers h l)
      ∙ ap (λ (ps : List ℕ). pack (pointer_to s h (size_at x.image h)) ∷ ps) (pointers_same (omega arith) r)

  -- and the same extents
  pub extents_same : {h : ℕ} {hs : List ℕ} → low ≤ h → Left s cue x h hs → extents_of y.image hs ≡ extents_of x.image hs
  unfolding extents_of
  extents_same l (no_more h e) = refl
  extents_same l (passed h hs o t r) = extents_same (omega arith) r
  extents_same l (taken h hs o t n r) = omega (arith, ap (λ (d : Header). d.extent) (q.headers h l), extents_same (omega arith) r)
