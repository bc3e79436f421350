-- The tests of a release: the walk that gathers the objects of the cue, and rows 7, 21 and 22.
-- In order: the walk, block by block, and its ways out; what tests that are passed say, with which the pass begins. Assumes nothing.
use Rattle.std.specs.Prelude.{Err, None, Ok, ℕ, ◌+◌, ◌≤◌, ◌≡◌, refl, Bool, true, false, cond, ◌&&◌, List, [], ◌∷◌, ◌++◌, length}
use Rattle.std.proofs.Common.{sym, ap, ◌∙◌, subst, append-nil, append_assoc, arith, length-append}
use Rattle.std.proofs.Math.Bool.{and-true}
use Rattle.block.specs.laws.Booleans.{by_bool, and_left, and_right}
use Rattle.block.specs.Bytes.{Bytes}
use Rattle.block.specs.Layout.{stored_total, header_at, extent_at, size_at, sound}
use Rattle.block.specs.laws.Soundness.{examined}
use Rattle.block.specs.laws.Total.{total_bound, with_total_own}
use Rattle.block.specs.Walk.{ended, walk_cue, is_of_cue, gathering}
use Rattle.block.specs.laws.Walks.{walk_carries_on}
use Rattle.block.specs.laws.Gathering.{walk_cue_is}
use Rattle.block.specs.laws.WalkTo.{at_first}
use Rattle.block.specs.declared.header.Header.{Header}
use Rattle.block.specs.laws.Turns.{Walking, Seen, begins, at-end, at_unsound, goes_on}
use Rattle.store.specs.State.{State, state, returned, value}
use Rattle.store.specs.Calls.{opening, entry_holds, all_held, extents_of, total_fits, release_checks, cue_pointers, free_each}
use Rattle.store.specs.laws.Free.{merge_start_here}
use Rattle.store.specs.laws.Release.{all_held_none, all_held_one, all_held-append, extents_none, extents_one, extents_append, cue_pointers_lem, Releasable, release_parts, release_unsound, release_lost, release_wrong, release_counted}
use Rattle.store.specs.laws.Sweep.{settled, no_run}
use Rattle.store.specs.laws.Refusals.{accepted_is}
use Rattle.store.specs.laws.Opening.{opening_parts}
use Rattle.store.specs.laws.Total.{total-within}
use Rattle.store.specs.declared.answer.Refusal.TheVariants.{Unsound, EntryLost, WrongTotal}
use Rattle.store.proofs.Remains.{Left, no_more, passed, taken}
use Rattle.store.proofs.Sweeping.{Sweep}
use Rattle.store.proofs.Runs.{Pass}

-- up to h, the walk has gathered `count` objects of the cue; `held` is row 21 of them, and `given` the sum of their extents
pub record Gathers (s cue : ℕ) (x : State) (held : Bool) (count given h : ℕ) : Type 0 where
  pub places : List ℕ
  pub walking : Walking (gathering cue) x.image [] places h
  pub counted : count ≡ length places
  pub holds : held ≡ all_held s places x
  pub gives : given ≡ extents_of x.image places
  pub few : count ≤ h
  pub small : given ≤ h

-- at 16 it has gathered none
pub gathers_none : (s cue : ℕ) (x : State) → Gathers s cue x true 0 0 16
gathers_none s cue x =
    record {
      places = [];
      walking = begins (gathering cue) x.image [];
      counted = refl;
      holds = sym (all_held_none s x);
      gives = sym (extents_none x.image);
      few = omega arith;
      small = omega arith;
    }

-- row 21 of one object more
held_more : (s : ℕ) (x : State) (hs : List ℕ) (h : ℕ) → all_held s (hs ++ (h ∷ [])) x ≡ all_held s hs x && entry_holds s h (size_at x.image h) h x.table
held_more s x hs h =
    let e : Bool = entry_holds s h (size_at x.image h) h x.table in
    all_held-append s x hs (h ∷ [])
    ∙ ap (λ (b : Bool). all_held s hs x && b) (all_held_one s x h [] ∙ ap (λ (b : Bool). e && b) (all_held_none s x) ∙ and-true e)

-- and its extent
extents_more : (image hs : List ℕ) (h : ℕ) → extents_of image (hs ++ (h ∷ [])) ≡ extents_of image hs + extent_at image h
extents_more image hs h = omega (arith, extents_append image hs (h ∷ []), extents_one image h [], extents_none image)

module _ {s cue : ℕ} {x : State} {held : Bool} {count given h : ℕ} (g : Gathers s cue x held count given h) where
  module _ {d : Header} (e : Seen x.image h d) where
    -- the walk goes on behind the block
    walks_on : (b : Bool) → is_of_cue cue d ≡ b → Walking (gathering cue) x.image [] (cond b (g.places ++ (h ∷ [])) g.places) (h + d.extent)
    walks_on b t =
        subst (λ (c : Bool). Walking (gathering cue) x.image [] (cond c (g.places ++ (h ∷ [])) g.places) (h + d.extent)) t
        (goes_on g.walking e refl)

    -- an object of the cue
    pub gathers_taken : is_of_cue cue d ≡ true → Gathers s cue x (held && entry_holds s h d.size h x.table) (count + 1) (given + d.extent) (h + d.extent)
    gathers_taken t =
        record {
          places = g.places ++ (h ∷ []);
          walking = walks_on true t;
          counted = ap (λ (n : ℕ). n + 1) g.counted ∙ sym (length-append g.places (h ∷ []));
          holds =
              ap (λ (b : Bool). b && entry_holds s h d.size h x.table) g.holds
              ∙ ap (λ (k : Header). all_held s g.places x && entry_holds s h k.size h x.table) e.is_header ∙ sym (held_more s x g.places h);
          gives = omega (arith, g.gives, extents_more x.image g.places h, ap (λ (k : Header). k.extent) e.is_header);
          few = omega (arith, g.few, e.long);
          small = omega (arith, g.small);
        }

    -- another block
    pub gathers_passed : is_of_cue cue d ≡ false → Gathers s cue x held count given (h + d.extent)
    gathers_passed t =
        record {
          places = g.places;
          walking = walks_on false t;
          counted = g.counted;
          holds = g.holds;
          gives = g.gives;
          few = omega (arith, g.few);
          small = omega (arith, g.small);
        }

  module _ (o : opening x ≡ Ok s) where
    -- an unsound header: row 7
    pub gathers_unsound : (h ≡ length x.image → ⊥) → examined x.image h ≡ None → Err Unsound ≡ release_checks cue x
    gathers_unsound n e = release_unsound cue x s h o (sym (walk_cue_is cue x.image) ∙ sym (at_unsound g.walking n e))

    -- the image's end: these places are gathered
    walked : h ≡ length x.image → walk_cue cue x.image ≡ ended g.places
    walked e = sym (walk_cue_is cue x.image) ∙ sym (at-end g.walking e)

    -- then row 21
    pub gathers_lost : h ≡ length x.image → held ≡ false → Err EntryLost ≡ release_checks cue x
    gathers_lost e l = release_lost cue x s g.places o (walked e) (sym g.holds ∙ l)

    module _ (e : h ≡ length x.image) (l : held ≡ true) where
      -- then row 22
      pub gathers_wrong : total_fits x.image given ≡ false → Err WrongTotal ≡ release_checks cue x
      gathers_wrong t =
          release_wrong cue x s g.places o (walked e) (sym g.holds ∙ l) (ap (total_fits x.image) (sym g.gives) ∙ t)

      -- or all tests are passed
      pub gathers_all : total_fits x.image given ≡ true → Ok count ≡ release_checks cue x
      gathers_all t =
          ap Ok g.counted
          ∙ release_counted cue x
          (record {
            opens = o;
            walked = walked e;
            held = sym g.holds ∙ l;
            total = omega (arith, total-within x.image given t, g.gives);
          })

-- What passed tests say.

module _ (s cue : ℕ) (x : State) where
  -- what the walk carries along: with what is left from h on, it has gathered what is left from 16 on
  abbrev Before : List ℕ → ℕ → Type 0
  Before hs h = (rest : List ℕ) → all_held s (hs ++ rest) x ≡ true → Left s cue x h rest → Left s cue x 16 (hs ++ rest)

  -- a block more
  before-next : (hs : List ℕ) (h : ℕ) → Before hs h → sound x.image h ≡ true
      → Before ((gathering cue).passes hs h (header_at x.image h)) (h + extent_at x.image h)
  before-next hs h b o =
      by_bool (is_of_cue cue (header_at x.image h))
      (λ t.
      subst (λ (c : Bool). Before (cond c (hs ++ (h ∷ [])) hs) (h + extent_at x.image h)) (sym t)
      (λ rest held left.
      let q : hs ++ (h ∷ []) ++ rest ≡ hs ++ (h ∷ rest) = append_assoc hs (h ∷ []) rest in
      let all : all_held s (hs ++ (h ∷ rest)) x ≡ true = ap (λ (ks : List ℕ). all_held s ks x) (sym q) ∙ held in
      let one : all_held s (h ∷ rest) x ≡ true = and_right (all_held s hs x) _ (sym (all_held-append s x hs (h ∷ rest)) ∙ all) in
      subst (Left s cue x 16) (sym q)
      (b (h ∷ rest) all (taken h rest o t (and_left _ (all_held s rest x) (sym (all_held_one s x h rest) ∙ one)) left))))
      (λ t.
      subst (λ (c : Bool). Before (cond c (hs ++ (h ∷ [])) hs) (h + extent_at x.image h)) (sym t)
      (λ rest held left. b rest held (passed h rest o t left)))

module _ {s cue : ℕ} {x : State} {places : List ℕ} (r : Releasable s cue x places) where
  -- all blocks are left
  all_left : Left s cue x 16 places
  all_left =
      let b : Before s cue x places (length x.image) =
      walk_carries_on (gathering cue) x.image (Before s cue x) (λ hs h b o t. before-next s cue x hs h b o) [] places (λ rest held left. left)
      (walk_cue_is cue x.image ∙ r.walked)
      in
      subst (Left s cue x 16) (append-nil places)
      (b [] (ap (λ (hs : List ℕ). all_held s hs x) (append-nil places) ∙ r.held) (no_more (length x.image) refl))

  -- with which the pass begins
  pub sweep_begins : Sweep s cue (free_each (cue_pointers cue x.image) x) x 0 16 places
  sweep_begins =
      record {
        opens = r.opens;
        behind = at_first;
        left = all_left;
        same =
            ap (λ (ps : List ℕ). free_each ps x)
            (sym (cue_pointers_lem s x.image cue places (sym (opening_parts x s r.opens).exponent) r.walked));
        total = r.total;
      }

-- the same, as the code begins
pub pass_begins : (s cue : ℕ) (x : State) → Bytes x.image → opening x ≡ Ok s → returned (release_checks cue x) ≡ 0
    → Pass s cue (free_each (cue_pointers cue x.image) x) x.image x.table (stored_total x.image) false 16 16
unfolding settled
pass_begins s cue x b o e =
    let op = opening_parts x s o in
    let (places, r, n) = release_parts cue (value (release_checks cue x)) x (accepted_is (release_checks cue x) e) in
    record {
      kept = no_run (omega (arith, op.long));
      low = omega arith;
      small = total_bound x.image b;
      before = 0;
      starts = merge_start_here _ 16 0 refl;
      places = places;
      swept =
          subst (λ (i : List ℕ). Sweep s cue (free_each (cue_pointers cue x.image) x) (state i x.table) 0 16 places)
          (sym (with_total_own x.image (omega (arith, op.long)) b)) (rw op.exponent (sweep_begins r));
    }
