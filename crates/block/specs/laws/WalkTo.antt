-- The walk to a block. Assumes nothing.
use Rattle.std.specs.Prelude.{◌≡◌, ℕ, ◌+◌, ◌≤◌, true, List, length, ◌==◌, refl, None, Some}
use Rattle.std.proofs.Common.{sym, ap, ◌∙◌, subst, arith, le-leb, eq-eqb, eqb-true}
use Rattle.std.proofs.lemmas.Bool.{lt-leb, eqb-false}
use Rattle.block.specs.Layout.{extent_at, sound}
use Rattle.block.specs.laws.Booleans.{by_bool}
use Rattle.block.specs.laws.Soundness.{examined, sound_in, sound-extent}
use Rattle.block.specs.Walk.{Walked, stopped, unsound, ended, walk, reaching, met_of, walk_to, OnWalk, first, next}
use Rattle.block.specs.laws.Walks.{Ends, walk_begins, walk_stopped, walk-next, walk_carries, walk_reaches}
use Rattle.block.specs.laws.Turns.{Walking, at-end, at_unsound}

-- a place before which a block ends: 16 with no block before it (0), or the end of the sound block at `before`
pub data Behind (image : List ℕ) : ℕ → ℕ → Type 0 where
  at_first : Behind image 0 16
  at_later : (before : ℕ) → OnWalk image before → sound image before ≡ true → Behind image before (before + extent_at image before)

-- it is on the walk
pub behind_on_walk : {image : List ℕ} {before h : ℕ} → Behind image before h → OnWalk image h
behind_on_walk at_first = first
behind_on_walk (at_later b w o) = next b w o

-- and the header before it is in the image, where there is room for one more
pub behind_in : {image : List ℕ} {before h : ℕ} → Behind image before h → h + 16 ≤ length image → before + 16 ≤ length image
behind_in at_first l = omega arith
behind_in {image} (at_later b w o) l = sound_in image b o

-- the block at `target` is on the walk, behind the one at `before`
pub record MeetsBlock (image : List ℕ) (target before : ℕ) : Type 0 where
  pub on_walk : OnWalk image target
  pub is_sound : sound image target ≡ true
  pub behind : Behind image before target

-- what the walk carries along: where it is, and which block ends there
Follows : List ℕ → ℕ → ℕ → Type 0
Follows image before h = OnWalk image h × Behind image before h

met_after : (image : List ℕ) (target before : ℕ) (w : Walked ℕ) → Ends (reaching target) image (Follows image) w → met_of target w ≡ Some before → MeetsBlock image target before
unfolding Ends met_of Follows
met_after image target before (stopped a h) r e =
    by_bool (h == target)
    (λ t. let z : h ≡ target = eqb-true _ _ t in
    let y : a ≡ before = cc in
    record {
      on_walk = subst (OnWalk image) z r.0.0;
      is_sound = ap (sound image) (sym z) ∙ r.1;
      behind = subst (λ (b : ℕ). Behind image b target) y (subst (Behind image a) z r.0.1);
    })
    (λ t. cc)
met_after image target before (unsound h) r e = cc
met_after image target before (ended a) r e = cc

-- a walk that stops at the target meets it
pub walk_to_stopped : (image : List ℕ) (target before : ℕ) → walk (reaching target) image 0 ≡ stopped before target → walk_to image target ≡ Some before
unfolding walk_to met_of
walk_to_stopped image target before e = rw (e, eq-eqb target target refl) refl

-- a walk that comes to a place without a sound header is lost, whether it is the image's end or not
pub walk_to_lost : {image : List ℕ} {before h : ℕ} (target : ℕ) → Walking (reaching target) image 0 before h → examined image h ≡ None → None ≡ walk_to image target
unfolding walk_to met_of
walk_to_lost {image} {before} {h} target w e =
    by_bool (h == length image)
    (λ t. ap (met_of target) (at-end w (eqb-true _ _ t)))
    (λ t. ap (met_of target) (at_unsound w (eqb-false _ _ t) e))

-- the block that was met is on the walk, behind the one named
pub walk_to_meets : (image : List ℕ) (target before : ℕ) → walk_to image target ≡ Some before → MeetsBlock image target before
unfolding walk_to Follows
walk_to_meets image target before e =
    met_after image target before (walk (reaching target) image 0)
    (walk_carries (reaching target) image (Follows image) (λ a k p o t. (next k p.0 o, at_later k p.0 o)) 0 (first, at_first))
    e

-- every sound block on the walk is met
pub walk_to_block : (image : List ℕ) (target : ℕ) → OnWalk image target → sound image target ≡ true → (before : ℕ) × (walk_to image target ≡ Some before)
walk_to_block image target w o =
    let r = walk_reaches (reaching target) image 0 target (λ k l. lt-leb target k l) target w (omega arith) in
    (r.0, walk_to_stopped image target r.0 (sym r.1 ∙ walk_stopped (reaching target) image r.0 target o (le-leb target target (omega arith))))

-- the same, behind a block that is known
pub behind_met : {image : List ℕ} {before h : ℕ} → Behind image before h → sound image h ≡ true → walk_to image h ≡ Some before
behind_met {image} at_first o =
    walk_to_stopped image 16 0 (sym (walk_begins (reaching 16) image 0) ∙ walk_stopped (reaching 16) image 0 16 o (le-leb 16 16 (omega arith)))
behind_met {image} (at_later b w q) o =
    let t : ℕ = b + extent_at image b in
    let long = sound-extent image b q in
    let r = walk_reaches (reaching t) image 0 t (λ k l. lt-leb t k l) b w (omega arith) in
    walk_to_stopped image t b
    (sym (sym (walk-next (reaching t) image r.0 b q (lt-leb t b (omega arith))) ∙ r.1) ∙ walk_stopped (reaching t) image b t o (le-leb t t (omega arith)))
