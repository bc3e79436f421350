-- The pass of a release, block by block, on the states that freeing singly goes through. Assumes nothing.
use Rattle.std.specs.Prelude.{Ok, ℕ, zero, suc, ◌+◌, ◌-◌, ◌≤◌, ◌<◌, ◌≡◌, true, false, List, ◌∷◌, eqb, length}
use Rattle.std.proofs.Common.{sym, ap, ◌∙◌, subst, arith, eqb-true}
use Rattle.std.proofs.lemmas.Bool.{eqb-false}
use Rattle.block.specs.laws.Booleans.{by_bool}
use Rattle.block.specs.Layout.{stored_total, header_at, extent_at, sound}
use Rattle.block.specs.laws.Soundness.{sound-extent}
use Rattle.block.specs.Walk.{is_of_cue}
use Rattle.block.specs.laws.WalkTo.{Behind, at_later, behind_on_walk}
use Rattle.store.specs.State.{State, Outcome, returned}
use Rattle.store.specs.Calls.{opening, extents_of, pointers_to, free_each}
use Rattle.store.specs.laws.Release.{extents_one, pointers_to_none, pointers_to_one, free_each_none, free_each_one}
use Rattle.store.specs.Claims.{EachFreed, none_left, one_freed}
use Rattle.store.proofs.Remains.{Left, of_cue_live, left-ends, left-sound, left_in, left_good, left_passed, left_taken, left-merged, left-same, pointers_same, extents_same}
use Rattle.store.proofs.Freeing.{Freeable, from, to, without, frees, free_one, without-total, without-same, without_opens, without-behind}

-- the objects of the cue before h are freed, which left x; freeing those at these places leaves `goal`. The block before h stands at `before`.
-- The total has room for what they give back.
pub record Sweep (s cue : ℕ) (goal x : State) (before h : ℕ) (places : List ℕ) : Type 0 where
  pub opens : opening x ≡ Ok s
  pub behind : Behind x.image before h
  pub left : Left s cue x h places
  pub same : free_each (pointers_to s x.image places) x ≡ goal
  pub total : stored_total x.image + extents_of x.image places ≤ length x.image - 16

-- the object at h is the first of these places and can be freed; then the others are left, behind the merged block
pub record Step (s cue : ℕ) (goal x : State) (before h : ℕ) (places : List ℕ) : Type 0 where
  pub rest : List ℕ
  pub first : places ≡ h ∷ rest
  pub freeable : Freeable s x before h
  pub pointers : pointers_to s (without freeable).image rest ≡ pointers_to s x.image rest
  pub swept : Sweep s cue goal (without freeable) (from freeable) (to freeable) rest

-- freeing all of them is freeing the first, then the others
frees_first : {s : ℕ} {x : State} {before h : ℕ} (rest : List ℕ) (f : Freeable s x before h)
    → free_each (pointers_to s x.image rest) (without f) ≡ free_each (pointers_to s x.image (h ∷ rest)) x
frees_first {s} {x} {before} {h} rest f =
    let ps : List ℕ = pointers_to s x.image rest in
    ap (λ (o : Outcome). free_each ps o.after) (sym (free_one f)) ∙ sym (free_each_one _ ps x)
    ∙ ap (λ (qs : List ℕ). free_each qs x) (sym (pointers_to_one s x.image h rest))

module _ {s cue : ℕ} {goal x : State} {before h : ℕ} {places : List ℕ} (w : Sweep s cue goal x before h places) where
  -- at the image's end it is the goal
  pub sweep_ends : h ≡ length x.image → x ≡ goal
  sweep_ends e =
      sym (free_each_none x) ∙ ap (λ (ps : List ℕ). free_each ps x) (sym (pointers_to_none s x.image))
      ∙ ap (λ (hs : List ℕ). free_each (pointers_to s x.image hs) x) (sym (left-ends w.left e)) ∙ w.same

  module _ (below : h ≡ length x.image → ⊥) where
    -- before it stands a sound header
    pub sweep_sound : sound x.image h ≡ true
    sweep_sound = left-sound w.left below

    -- a block that is not of the cue is passed
    pub sweep_passes : is_of_cue cue (header_at x.image h) ≡ false → Sweep s cue goal x h (h + extent_at x.image h) places
    sweep_passes t =
        record {
          opens = w.opens;
          behind = at_later h (behind_on_walk w.behind) sweep_sound;
          left = left_passed w.left below t;
          same = w.same;
          total = w.total;
        }

    -- an object of the cue is freed
    pub sweep_takes : is_of_cue cue (header_at x.image h) ≡ true → Step s cue goal x before h places
    sweep_takes t =
        let r = left_taken w.left below t in
        let gives : extents_of x.image places ≡ extent_at x.image h + extents_of x.image r.rest =
        ap (extents_of x.image) r.places ∙ extents_one x.image h r.rest
        in
        let f : Freeable s x before h =
        record {
          opens = w.opens;
          behind = w.behind;
          is_sound = sweep_sound;
          is_live_lem = of_cue_live cue x.image h t;
          holds = r.holds;
          next_good = left_good r.left;
          total = omega (arith, w.total, gives);
        }
        in
        let l = left-merged r.left in
        let ps = pointers_same (without-same f) (omega arith) l in
        record {
          rest = r.rest;
          first = r.places;
          freeable = f;
          pointers = ps;
          swept =
              record {
                opens = without_opens f;
                behind = without-behind f;
                left = left-same (without-same f) (omega arith) l;
                same =
                    ap (λ (qs : List ℕ). free_each qs (without f)) ps ∙ frees_first r.rest f
                    ∙ ap (λ (hs : List ℕ). free_each (pointers_to s x.image hs) x) (sym r.places) ∙ w.same;
                total = omega (arith, w.total, gives, without-total f, (without-same f).long, extents_same (without-same f) (omega arith) l);
              };
        }

-- Each of the frees is accepted.

step-freed : {s cue : ℕ} {goal x : State} {before h : ℕ} {places : List ℕ} (p : Step s cue goal x before h places)
    → EachFreed (pointers_to s (without p.freeable).image p.rest) (without p.freeable) → EachFreed (pointers_to s x.image places) x
step-freed {s} {cue} {goal} {x} {before} {h} p e =
    let f = p.freeable in
    let ps : List ℕ = pointers_to s x.image p.rest in
    subst (λ (hs : List ℕ). EachFreed (pointers_to s x.image hs) x) (sym p.first)
    (subst (λ (qs : List ℕ). EachFreed qs x) (sym (pointers_to_one s x.image h p.rest))
    (one_freed _ ps x (ap (λ (o : Outcome). returned o.answer) (free_one f))
    (subst (EachFreed ps) (ap (λ (o : Outcome). o.after) (sym (free_one f))) (subst (λ (qs : List ℕ). EachFreed qs (without f)) p.pointers e))))

pub sweep_freed : {s cue : ℕ} (k : ℕ) {goal x : State} {before h : ℕ} {places : List ℕ} → length x.image < h + k → Sweep s cue goal x before h places
    → EachFreed (pointers_to s x.image places) x
sweep_freed {s} {cue} zero {goal} {x} {before} {h} l w = absurd (omega (arith, left_in w.left))
sweep_freed {s} {cue} (suc k) {goal} {x} {before} {h} l w =
    by_bool (eqb h (length x.image))
    (λ e.
    subst (λ (hs : List ℕ). EachFreed (pointers_to s x.image hs) x) (sym (left-ends w.left (eqb-true h (length x.image) e)))
    (subst (λ (ps : List ℕ). EachFreed ps x) (sym (pointers_to_none s x.image)) (none_left x)))
    (λ e.
    let n : h ≡ length x.image → ⊥ = eqb-false h (length x.image) e in
    let long = sound-extent x.image h (sweep_sound w n) in
    by_bool (is_of_cue cue (header_at x.image h))
    (λ t.
    let p = sweep_takes w n t in
    let f = p.freeable in
    step-freed p (sweep_freed k (omega (arith, (without-same f).long, (frees f).ends)) p.swept))
    (λ t. sweep_freed k (omega arith) (sweep_passes w n t)))
