-- Every walk over the blocks.
-- In order: its bound, its steps, what it carries along, the places that it comes by. Not here: what each of its uses finds. Assumes nothing.
use Rattle.std.proofs.lemmas.Bool.{eqb-false}
use Rattle.std.specs.Prelude.{◌≡◌, ℕ, zero, suc, ◌+◌, ◌<◌, ◌≤◌, true, false, List, length, ◌==◌, ◌≢◌}
use Rattle.std.proofs.Math.Path.{refl, sym, ap, subst}
use Rattle.std.proofs.Common.{◌∙◌, arith, eq-eqb, ne_eqb, eqb-true}
use Rattle.block.specs.Layout.{header_at, extent_at, sound}
use Rattle.block.specs.laws.Booleans.{by_bool}
use Rattle.block.specs.laws.Soundness.{sound-same, sound_low, sound_in, sound-extent, unsound_past}
use Rattle.block.specs.Walk.{Walked, stopped, unsound, ended, Search, walk_in, walk_from, walk, OnWalk, first, next}
use Rattle.block.specs.declared.header.Header.{Header}

-- an unsound header that the walk meets
pub record MeetsUnsound (image : List ℕ) (h : ℕ) : Type 0 where
  pub on_walk : OnWalk image h
  pub before_end : h ≡ length image → ⊥
  pub is_unsound : sound image h ≡ false

-- the place where a walk ended
unfoldable pub place : {A : Type 0} → List ℕ → Walked A → ℕ
place image (stopped a h) = h
place image (unsound h) = h
place image (ended a) = length image

-- what holds at the end of a walk that carries P along
unfoldable pub Ends : {A : Type 0} → Search A → List ℕ → (A → ℕ → Type 0) → Walked A → Type 0
Ends s image P (stopped a h) = P a h × (sound image h ≡ true) × (s.stops h (header_at image h) ≡ true)
Ends {A} s image P (unsound h) = ((a : A) × P a h) × (h ≢ length image) × (sound image h ≡ false)
Ends s image P (ended a) = P a (length image)

pub place_stopped : {A : Type 0} (image : List ℕ) (w : Walked A) (a : A) (h : ℕ) → w ≡ stopped a h → place image w ≡ h
unfolding place
place_stopped image w a h e = ap (place image) e

module _ {A : Type 0} (s : Search A) (image : List ℕ) where
  -- one step, with any bound

  in_ended : (k : ℕ) (a : A) (h : ℕ) → h ≡ length image → walk_in s (suc k) image a h ≡ ended a
  unfolding walk_in
  in_ended k a h e = rw (eq-eqb h (length image) e, walk_in)

  in_unsound : (k : ℕ) (a : A) (h : ℕ) → (h ≢ length image) → sound image h ≡ false → walk_in s (suc k) image a h ≡ unsound h
  unfolding walk_in
  in_unsound k a h n e = rw (ne_eqb h (length image) n, e, walk_in)

  in_stopped : (k : ℕ) (a : A) (h : ℕ) → sound image h ≡ true → s.stops h (header_at image h) ≡ true → walk_in s (suc k) image a h ≡ stopped a h
  unfolding walk_in
  in_stopped k a h e t = rw (ne_eqb h (length image) (omega (arith, sound_in image h e)), e, t, walk_in)

  in_next : (k : ℕ) (a : A) (h : ℕ) → sound image h ≡ true → s.stops h (header_at image h) ≡ false
      → walk_in s (suc k) image a h ≡ walk_in s k image (s.passes a h (header_at image h)) (h + extent_at image h)
  unfolding walk_in
  in_next k a h e t = rw (ne_eqb h (length image) (omega (arith, sound_in image h e)), e, t, walk_in)

  -- the bound is never used up: any two that are large enough give the same walk
  pub walk_bound : (j k : ℕ) (a : A) (h : ℕ) → length image < h + j → length image < h + k → walk_in s j image a h ≡ walk_in s k image a h
  unfolding walk_in
  walk_bound zero zero a h p q = refl
  walk_bound zero (suc k) a h p q = sym (in_unsound k a h (omega arith) (unsound_past image h (omega arith)))
  walk_bound (suc j) zero a h p q = in_unsound j a h (omega arith) (unsound_past image h (omega arith))
  walk_bound (suc j) (suc k) a h p q =
      by_bool (h == length image)
      (λ e. let z : h ≡ length image = eqb-true _ _ e in in_ended j a h z ∙ sym (in_ended k a h z))
      (λ e. let n : h ≡ length image → ⊥ = eqb-false _ _ e in
      by_bool (sound image h)
      (λ o. by_bool (s.stops h (header_at image h))
      (λ t. in_stopped j a h o t ∙ sym (in_stopped k a h o t))
      (λ t. let x : 16 ≤ extent_at image h = sound-extent image h o in
      in_next j a h o t ∙ walk_bound j k (s.passes a h (header_at image h)) (h + extent_at image h) (omega arith) (omega arith) ∙ sym (in_next k a h o t)))
      (λ o. in_unsound j a h n o ∙ sym (in_unsound k a h n o)))

  -- the walk from h on, step by step

  -- the walk over the whole image starts behind the superblock
  pub walk_begins : (a : A) → walk_from s image a 16 ≡ walk s image a
  unfolding walk
  walk_begins a = refl

  -- at the end of the image
  pub walk_ended : (a : A) (h : ℕ) → h ≡ length image → walk_from s image a h ≡ ended a
  unfolding walk_from
  walk_ended a h e = in_ended (length image) a h e

  -- at an unsound header
  pub walk_unsound : (a : A) (h : ℕ) → (h ≢ length image) → sound image h ≡ false → walk_from s image a h ≡ unsound h
  unfolding walk_from
  walk_unsound a h n e = in_unsound (length image) a h n e

  -- at a block to stop at
  pub walk_stopped : (a : A) (h : ℕ) → sound image h ≡ true → s.stops h (header_at image h) ≡ true → walk_from s image a h ≡ stopped a h
  unfolding walk_from
  walk_stopped a h e t = in_stopped (length image) a h e t

  -- past any other block
  pub walk-next : (a : A) (h : ℕ) → sound image h ≡ true → s.stops h (header_at image h) ≡ false
      → walk_from s image a h ≡ walk_from s image (s.passes a h (header_at image h)) (h + extent_at image h)
  unfolding walk_from
  walk-next a h e t =
      in_next (length image) a h e t
      ∙ walk_bound (length image) (suc (length image)) (s.passes a h (header_at image h)) (h + extent_at image h) (omega (arith, sound-extent image h e)) (omega (arith, sound-extent image h e))

  -- what holds at the start and is kept by each block that is passed holds at the end
  module _ (P : A → ℕ → Type 0)
      (keeps : (a : A) (h : ℕ) → P a h → sound image h ≡ true → s.stops h (header_at image h) ≡ false → P (s.passes a h (header_at image h)) (h + extent_at image h)) where
    in_carries : (k : ℕ) (a : A) (h : ℕ) → length image < h + k → P a h → Ends s image P (walk_in s k image a h)
    unfolding walk_in Ends
    in_carries zero a h l p = ((a, p), (omega arith), unsound_past image h (omega arith))
    in_carries (suc k) a h l p =
        by_bool (h == length image)
        (λ e. let z : h ≡ length image = eqb-true _ _ e in subst (Ends s image P) (sym (in_ended k a h z)) (subst (P a) z p))
        (λ e. let n : h ≡ length image → ⊥ = eqb-false _ _ e in
        by_bool (sound image h)
        (λ o. by_bool (s.stops h (header_at image h))
        (λ t. subst (Ends s image P) (sym (in_stopped k a h o t)) (p, o, t))
        (λ t. let x : 16 ≤ extent_at image h = sound-extent image h o in
        subst (Ends s image P) (sym (in_next k a h o t)) (in_carries k (s.passes a h (header_at image h)) (h + extent_at image h) (omega arith) (keeps a h p o t))))
        (λ o. subst (Ends s image P) (sym (in_unsound k a h n o)) ((a, p), n, o)))

    -- the law of every walk: P holds where it ends
    pub walk_carries : (a : A) → P a 16 → Ends s image P (walk s image a)
    unfolding walk walk_from
    walk_carries a p = in_carries (suc (length image)) a 16 (omega arith) p

    -- at the image's end, where it comes so far
    pub walk_carries_on : (a b : A) → P a 16 → walk s image a ≡ ended b → P b (length image)
    unfolding Ends
    walk_carries_on a b p e = subst (Ends s image P) e (walk_carries a p)

  -- a walk comes by each place up to the first where it could stop
  pub walk_reaches : (a : A) (t : ℕ) → ((k : ℕ) → k < t → s.stops k (header_at image k) ≡ false) → (k : ℕ) → OnWalk image k → k ≤ t
      → (b : A) × (walk_from s image b k ≡ walk s image a)
  unfolding walk
  walk_reaches a t n _ first l = (a, refl)
  walk_reaches a t n _ (next k w o) l =
      let x : 16 ≤ extent_at image k = sound-extent image k o in
      let r = walk_reaches a t n k w (omega arith) in
      (s.passes r.0 k (header_at image k), sym (walk-next r.0 k o (n k (omega arith))) ∙ r.1)

  -- the same, up to the place where it ended
  walk_comes : (a : A) (k : ℕ) → OnWalk image k → k ≤ place image (walk s image a) → (b : A) × (walk_from s image b k ≡ walk s image a)
  unfolding walk place
  walk_comes a _ first l = (a, refl)
  walk_comes a _ (next k w o) l =
      let x : 16 ≤ extent_at image k = sound-extent image k o in
      let r = walk_comes a k w (omega arith) in
      by_bool (s.stops k (header_at image k))
      (λ t. let z : k ≡ place image (walk s image a) = ap (place image) (sym (walk_stopped r.0 k o t) ∙ r.1) in absurd (omega arith))
      (λ t. (s.passes r.0 k (header_at image k), sym (walk-next r.0 k o t) ∙ r.1))

  -- every block that a walk passed is sound, and none to stop at
  pub walk_passed : (a : A) (k : ℕ) → OnWalk image k → k < place image (walk s image a) → (sound image k ≡ true) × (s.stops k (header_at image k) ≡ false)
  unfolding place
  walk_passed a k w l =
      let r = walk_comes a k w (omega arith) in
      by_bool (k == length image)
      (λ e. let z : length image ≡ place image (walk s image a) = ap (place image) (sym (walk_ended r.0 k (eqb-true _ _ e)) ∙ r.1) in
      let y : k ≡ length image = eqb-true _ _ e in absurd (omega arith))
      (λ e. by_bool (sound image k)
      (λ o. by_bool (s.stops k (header_at image k))
      (λ t. let z : k ≡ place image (walk s image a) = ap (place image) (sym (walk_stopped r.0 k o t) ∙ r.1) in absurd (omega arith))
      (λ t. (o, t)))
      (λ o. let z : k ≡ place image (walk s image a) = ap (place image) (sym (walk_unsound r.0 k (eqb-false _ _ e) o) ∙ r.1) in absurd (omega arith)))

  -- where a walk stops, there is a sound block of the walk, and one to stop at
  pub walk_stop : (a b : A) (h : ℕ) → walk s image a ≡ stopped b h → OnWalk image h × (sound image h ≡ true) × (s.stops h (header_at image h) ≡ true)
  unfolding Ends
  walk_stop a b h e = subst (Ends s image (λ _ k. OnWalk image k)) e (walk_carries (λ _ k. OnWalk image k) (λ _ k w o t. next k w o) a first)

  -- and where it meets an unsound header, that is on the walk
  pub walk_meets_unsound : (a : A) (h : ℕ) → walk s image a ≡ unsound h → MeetsUnsound image h
  unfolding Ends
  walk_meets_unsound a h e =
      let r = subst (Ends s image (λ _ k. OnWalk image k)) e (walk_carries (λ _ k. OnWalk image k) (λ _ k w o t. next k w o) a first) in
      record { on_walk = r.0.1; before_end = r.1; is_unsound = r.2 }

-- a walk over headers that stay comes by the same places
pub on_walk_kept : (image other : List ℕ) (top : ℕ) → length other ≡ length image → ((k : ℕ) → 16 ≤ k → k + 16 ≤ top → header_at other k ≡ header_at image k)
    → (k : ℕ) → OnWalk image k → k ≤ top → OnWalk other k
on_walk_kept image other top l e _ first u = first
on_walk_kept image other top l e _ (next k w o) u =
    let x : 16 ≤ extent_at image k = sound-extent image k o in
    let q : header_at other k ≡ header_at image k = e k (sound_low image k o) (omega arith) in
    subst (λ (d : Header). OnWalk other (k + d.extent)) q
    (next k (on_walk_kept image other top l e k w (omega arith)) (sound-same image k other l q ∙ o))
