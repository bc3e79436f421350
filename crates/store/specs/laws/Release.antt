-- Release, the end of a cue.
-- In order: its folds over the places of the cue's objects; what is known where its rows are passed; each row, and what is left by the answer; what it
-- comes to. Assumes nothing.
use Rattle.std.specs.Prelude.{ℕ, suc, ◌+◌, ◌-◌, ◌≤◌, ◌≡◌, true, false, ◌&&◌, length, Err, Ok, List, [], ◌∷◌, ◌++◌}
use Rattle.std.proofs.Common.{◌∙◌, arith}
use Rattle.std.proofs.Math.Path.{refl, sym, ap}
use Rattle.std.proofs.Math.Bool.{Bool, and_assoc}
use Rattle.frame.specs.Pointers.{pack}
use Rattle.frame.specs.Tags.{pointer_to}
use Rattle.block.specs.Layout.{slot_exponent, stored_total, extent_at, size_at}
use Rattle.block.specs.Walk.{Walked, stopped, unsound, ended, walk_cue}
use Rattle.store.specs.State.{State, state, outcome}
use Rattle.store.specs.Calls.{opening, entry_holds, free, gathered_answer, places_of, all_held, extents_of, total_fits, release_checks, pointers_to, cue_pointers, free_each, release_cue}
use Rattle.store.specs.laws.Refusals.{demand_met, and_then_met}
use Rattle.store.specs.laws.Opening.{opening_parts}
use Rattle.store.specs.laws.Total.{total_fits_lem, total-within}
use Rattle.store.specs.declared.answer.Refusal.{Refusal}
use Rattle.store.specs.declared.answer.Refusal.TheVariants.{Unsound, EntryLost, WrongTotal}
use Rattle.store.specs.State.{Answer}

-- row 21, place by place

module _ (s : ℕ) (x : State) where
  pub all_held_none : all_held s [] x ≡ true
  unfolding all_held
  all_held_none = refl

  pub all_held_one : (h : ℕ) (hs : List ℕ) → all_held s (h ∷ hs) x ≡ entry_holds s h (size_at x.image h) h x.table && all_held s hs x
  unfolding all_held
  all_held_one h hs = refl

  -- of two lists
  pub all_held-append : (hs ks : List ℕ) → all_held s (hs ++ ks) x ≡ all_held s hs x && all_held s ks x
  unfolding all_held
  all_held-append [] ks = refl
  all_held-append (h ∷ hs) ks =
      let e : Bool = entry_holds s h (size_at x.image h) h x.table in
      ap (λ (b : Bool). e && b) (all_held-append hs ks) ∙ sym (and_assoc e (all_held s hs x) (all_held s ks x))

-- the extents, place by place

module _ (image : List ℕ) where
  pub extents_none : extents_of image [] ≡ 0
  unfolding extents_of
  extents_none = refl

  pub extents_one : (h : ℕ) (hs : List ℕ) → extents_of image (h ∷ hs) ≡ extent_at image h + extents_of image hs
  unfolding extents_of
  extents_one h hs = refl

  -- of two lists
  pub extents_append : (hs ks : List ℕ) → extents_of image (hs ++ ks) ≡ extents_of image hs + extents_of image ks
  unfolding extents_of
  extents_append [] ks = omega arith
  extents_append (h ∷ hs) ks = omega (arith, extents_append hs ks)

-- the pointers, place by place

module _ (s : ℕ) (image : List ℕ) where
  pub pointers_to_none : pointers_to s image [] ≡ []
  unfolding pointers_to
  pointers_to_none = refl

  pub pointers_to_one : (h : ℕ) (hs : List ℕ) → pointers_to s image (h ∷ hs) ≡ pack (pointer_to s h (size_at image h)) ∷ pointers_to s image hs
  unfolding pointers_to
  pointers_to_one h hs = refl

  -- as many as places
  pub length_pointers : (hs : List ℕ) → length (pointers_to s image hs) ≡ length hs
  unfolding pointers_to
  length_pointers [] = refl
  length_pointers (h ∷ hs) = ap suc (length_pointers hs)

  -- those of the cue
  pub cue_pointers_lem : (cue : ℕ) (places : List ℕ) → slot_exponent image ≡ s → walk_cue cue image ≡ ended places → cue_pointers cue image ≡ pointers_to s image places
  unfolding cue_pointers places_of
  cue_pointers_lem cue places q w = rw (q, w) refl

-- freeing, pointer by pointer

pub free_each_none : (x : State) → free_each [] x ≡ x
unfolding free_each
free_each_none x = refl

pub free_each_one : (p : ℕ) (ps : List ℕ) (x : State) → free_each (p ∷ ps) x ≡ free_each ps (free p x).after
unfolding free_each
free_each_one p ps x = refl

-- a gathering that came through ended at the image's end
gathered_met : (w : Walked (List ℕ)) (next : List ℕ → Answer) (v : ℕ) → gathered_answer w next ≡ Ok v
    → (places : List ℕ) × (w ≡ ended places) × (next places ≡ Ok v)
unfolding gathered_answer
gathered_met (stopped places h) next v e = cc
gathered_met (unsound h) next v e = cc
gathered_met (ended places) next v e = (places, refl, e)

-- the rows of release are passed, for the objects of the cue at these places
pub record Releasable (s cue : ℕ) (x : State) (places : List ℕ) : Type 0 where
  pub opens : opening x ≡ Ok s
  pub walked : walk_cue cue x.image ≡ ended places
  pub held : all_held s places x ≡ true
  pub total : stored_total x.image + extents_of x.image places ≤ length x.image - 16

-- an accepted release passes them
pub release_parts : (cue n : ℕ) (x : State) → release_checks cue x ≡ Ok n → (places : List ℕ) × Releasable (slot_exponent x.image) cue x places × (n ≡ length places)
unfolding release_checks
release_parts cue n x e =
    let (s, o, m) = and_then_met (opening x) _ n e in
    let (places, w, d) = gathered_met (walk_cue cue x.image) _ n m in
    let (held, g) = demand_met (all_held s places x) EntryLost _ n d in
    let (t, c) = demand_met (total_fits x.image (extents_of x.image places)) WrongTotal _ n g in
    let q : s ≡ slot_exponent x.image = (opening_parts x s o).exponent in
    (places, rw (← q) (record { opens = o; walked = w; held = held; total = total-within x.image (extents_of x.image places) t }), cc)

-- The rows, and what is left by the answer.

module _ (cue : ℕ) (x : State) where
  -- row 4 or 5
  pub release_shut : (r : Refusal) → opening x ≡ Err r → Err r ≡ release_checks cue x
  unfolding release_checks
  release_shut r e = rw e

  -- row 7
  pub release_unsound : (s h : ℕ) → opening x ≡ Ok s → walk_cue cue x.image ≡ unsound h → Err Unsound ≡ release_checks cue x
  unfolding release_checks gathered_answer
  release_unsound s h o w = rw (o, w)

  -- row 21
  pub release_lost : (s : ℕ) (places : List ℕ) → opening x ≡ Ok s → walk_cue cue x.image ≡ ended places → all_held s places x ≡ false
      → Err EntryLost ≡ release_checks cue x
  unfolding release_checks gathered_answer
  release_lost s places o w l = rw (o, w, l)

  -- row 22
  pub release_wrong : (s : ℕ) (places : List ℕ) → opening x ≡ Ok s → walk_cue cue x.image ≡ ended places → all_held s places x ≡ true
      → total_fits x.image (extents_of x.image places) ≡ false → Err WrongTotal ≡ release_checks cue x
  unfolding release_checks gathered_answer
  release_wrong s places o w h f = rw (o, w, h, f)

  -- all are passed
  pub release_counted : {s : ℕ} {places : List ℕ} → Releasable s cue x places → Ok (length places) ≡ release_checks cue x
  unfolding release_checks gathered_answer
  release_counted {s} {places} r = rw (r.opens, r.walked, r.held, total_fits_lem x.image (extents_of x.image places) r.total)

  -- a refusal leaves all as it was
  pub release_declined : (r : Refusal) → release_checks cue x ≡ Err r → outcome (Err r) x.image x.table ≡ release_cue cue x
  unfolding release_cue
  release_declined r e = rw e

  -- otherwise the objects are freed
  pub release_done : (n : ℕ) (image table : List ℕ) → release_checks cue x ≡ Ok n → state image table ≡ free_each (cue_pointers cue x.image) x
      → outcome (Ok n) image table ≡ release_cue cue x
  unfolding release_cue
  release_done n image table e q = rw e (ap (λ (y : State). record { answer = Ok n; after = y }) q)

-- What it comes to, where rows 4 and 5 are passed.
pub release_is : (s cue : ℕ) (x : State) (places : List ℕ) → opening x ≡ Ok s → slot_exponent x.image ≡ s → walk_cue cue x.image ≡ ended places
    → all_held s places x ≡ true → stored_total x.image + extents_of x.image places ≤ length x.image - 16
    → release_cue cue x ≡ record { answer = Ok (length places); after = free_each (pointers_to s x.image places) x }
release_is s cue x places o q w h t =
    let y : State = free_each (pointers_to s x.image places) x in
    sym
    (release_done cue x (length places) y.image y.table (sym (release_counted cue x (record { opens = o; walked = w; held = h; total = t })))
    (ap (λ (ps : List ℕ). free_each ps x) (sym (cue_pointers_lem s x.image cue places q w))))
