-- A release on an image and table with the invariant.
-- In order: lists in the order of addresses; the cue's objects, so ordered; freeing live objects singly; what a release comes to. Assumes nothing.
use Rattle.std.proofs.Common.{Ok, Option, None, Some, ℕ, suc, ◌+◌, ◌≤◌, ◌<◌, ◌≡◌, refl, Bool, true, not, cond, List, [], ◌∷◌, ◌↔◌, length, eqb, sym, ap, ◌∙◌, subst, ⊎_elim, arith, eq-eqb, ne_eqb, eqb-true}
use Rattle.std.proofs.lemmas.Bool.{eqb-false}
use mathlib.Core.List.Memᴰ
use Rattle.block.specs.laws.Booleans.{by_bool, and_both}
use Rattle.frame.specs.Pointers.{pack}
use Rattle.frame.specs.Tags.{pointer_to}
use Rattle.block.specs.Layout.{extent_at, size_at}
use Rattle.block.specs.declared.header.Header.{Header}
use Rattle.store.specs.State.{State, Outcome, IsAccepted, returned, value}
use Rattle.store.specs.Calls.{entry_holds, free, all_held, extents_of, pointers_to, free_each, release_cue}
use Rattle.store.specs.Step.{releases}
use Rattle.store.specs.Claims.{EachFreed, none_left, one_freed}
use Rattle.store.specs.laws.Entries.{entry_holds_lem}
use Rattle.store.specs.laws.Release.{all_held_none, all_held_one, extents_none, extents_one, pointers_to_none, pointers_to_one, free_each_none, free_each_one, release_is}
use Rattle.history.specs.Heap.{Object, Heap, without, of_cue, without_cue, hear}
use Rattle.history.specs.History.{Configuration, In, header_of}
use Rattle.history.specs.Release.{answers, FreedSingly}
use Rattle.history.proofs.Gaps.{extent, Layout, last, item, size, gaps, lookup, block_at}
use Rattle.history.proofs.Looks.{look_first, look_rest, look_inside}
use Rattle.history.proofs.Image.{live_at}
use Rattle.history.proofs.Gathering.{places_in, gather_layout}
use Rattle.history.proofs.Heap.{find, Distinct, none_some, some_same, find_here, find_rest, find-place, find_in, in_find, Pairs, pairwise, Apart, first_apart, found-passing, distinct_passing, same_count}
use Rattle.history.proofs.Invariant.{Invariant, known, object_of, no_object, exponent_is, total_is, opens, relisted}
use Rattle.history.proofs.Steps.{Emptied, free_live}

-- in the order of their addresses
abbrev pub Sorted : Heap → Type 0
Sorted os = Pairs (λ o o'. header_of o < header_of o') os

-- no two of them have one header place
sorted_distinct : (os : Heap) → Sorted os → Distinct os
sorted_distinct [] c = tt
sorted_distinct (o ∷ os) c = (go (find os (header_of o)) refl, sorted_distinct os c.1)
  where
    go : (r : Option Object) → find os (header_of o) ≡ r → r ≡ None
    go None e = refl
    go (Some o') e = absurd (omega (arith, c.0 o' (find_in os (header_of o) o' e), find-place os (header_of o) o' e))

-- the first is the lowest
first_lowest : (o : Object) (os : Heap) → Sorted (o ∷ os) → (p : Object) → find (o ∷ os) (header_of p) ≡ Some p → header_of o ≤ header_of p
first_lowest o os c p e =
    ⊎_elim
    (λ (q : p ≡ o). omega (arith, ap (λ (z : Object). header_of z) q))
    (λ (m : In p os). omega (arith, c.0 p m))
    (Memᴰ.cases_cons (find_in (o ∷ os) (header_of p) p e))

-- only one such list has the same objects
pub sorted_same : (os ps : Heap) → Sorted os → Sorted ps → ((k : ℕ) → find os k ≡ find ps k) → os ≡ ps
unfolding find
sorted_same [] [] c d e = refl
sorted_same [] (p ∷ ps) c d e = absurd (none_some {o = p} refl (e (header_of p) ∙ find_here p ps (header_of p) refl))
sorted_same (o ∷ os) [] c d e = absurd (none_some {o = o} refl (sym (e (header_of o)) ∙ find_here o os (header_of o) refl))
sorted_same (o ∷ os) (p ∷ ps) c d e =
    let o-there : find (p ∷ ps) (header_of o) ≡ Some o = sym (e (header_of o)) ∙ find_here o os (header_of o) refl in
    let p-here : find (o ∷ os) (header_of p) ≡ Some p = e (header_of p) ∙ find_here p ps (header_of p) refl in
    let place : header_of o ≡ header_of p = omega (arith, first_lowest o os c p p-here, first_lowest p ps d o o-there) in
    let first : o ≡ p = some_same o-there (find_here p ps (header_of o) place) in
    let rest : os ≡ ps =
    sorted_same os ps c.1 d.1
    (λ k.
    find_rest o os k (sorted_distinct (o ∷ os) c) ∙ (λ i. cond (eqb k (header_of (first i))) None (e k i))
    ∙ sym (find_rest p ps k (sorted_distinct (p ∷ ps) d)))
    in
    λ i. first i ∷ rest i

-- The cue's objects from h on, in the order of their addresses, and what release needs of their places.
pub record Gathered (s cue : ℕ) (x : State) (heap : Heap) (h : ℕ) (l : Layout) (places : List ℕ) : Type 0 where
  pub objects : Heap
  pub sorted : Sorted objects
  pub low : (o : Object) → In o objects → h ≤ header_of o
  pub live : (o : Object) → In o objects → (find heap (header_of o) ≡ Some o) × (o.cue ≡ cue)
  pub all : (o : Object) → find heap (header_of o) ≡ Some o → h ≤ header_of o → o.cue ≡ cue → In o objects
  pub pointers : pointers_to s x.image places ≡ answers objects
  pub count : length places ≡ length objects
  pub held : all_held s places x ≡ true
  pub extents : extents_of x.image places + gaps l ≤ size l

-- What freeing these objects singly leaves: their places are empty, and the others are as they were.
record Freed (s L : ℕ) (x : State) (heap os : Heap) : Type 0 where
  pub each : EachFreed (answers os) x
  pub new : Heap
  pub left : Invariant s L (free_each (answers os) x) new
  pub gone : (o : Object) → In o os → find new (header_of o) ≡ None
  pub stays : (k : ℕ) → ((o : Object) → In o os → header_of o ≡ k → ⊥) → find new k ≡ find heap k

-- an object in a list that has one more in front
in_cons : {P : Object → Type 0} (o : Object) (os : Heap) → P o → ((o' : Object) → In o' os → P o') → (o' : Object) → In o' (o ∷ os) → P o'
in_cons {P} o os p q o' m = ⊎_elim (λ (e : o' ≡ o). subst P (sym e) p) (q o') (Memᴰ.cases_cons m)

module _ {s L : ℕ} {x : State} {heap : Heap} (i : Invariant s L x heap) where
  -- row 21 of a live object is passed
  entry_kept : (k : ℕ) (o : Object) → find heap k ≡ Some o → entry_holds s k (size_at x.image k) k x.table ≡ true
  entry_kept k o e = rw (known i.laid k o e).size (entry_holds_lem s k o.size k x.table (i.tabled.placed k o e))

  -- the pointer to it is allocate's answer
  pointer_kept : (k : ℕ) (o : Object) → find heap k ≡ Some o → pack (pointer_to s k (size_at x.image k)) ≡ o.answer
  pointer_kept k o e = ap (λ (n : ℕ). pack (pointer_to s k n)) (known i.laid k o e).size ∙ sym (i.laid.fine k o e).answered

  -- the layout from h on
  gathered : (cue h : ℕ) (l : Layout) → ((k : ℕ) → h ≤ k → block_at i.laid.layout k ≡ lookup h l k) → Gathered s cue x heap h l (places_in cue h l)
  unfolding places_in answers lookup
  gathered cue h (last g) looked =
      record {
        objects = [];
        sorted = tt;
        low = λ o m. absurd (Memᴰ.not-nil m);
        live = λ o m. absurd (Memᴰ.not-nil m);
        all = λ o e u c. absurd (none_some (no_object i.laid (header_of o) (looked (header_of o) u)) e);
        pointers = pointers_to_none s x.image;
        count = refl;
        held = all_held_none s x;
        extents = omega (arith, extents_none x.image);
      }
  gathered cue h (item g b l) looked =
      let k : ℕ = h + g in
      let end : ℕ = h + g + extent b in
      let rest : Gathered s cue x heap end l (places_in cue end l) = gathered cue end l (λ j u. looked j (omega arith) ∙ look_rest h g b l j (λ e. omega arith)) in
      let (o, e, c, bytes) = object_of i.laid k b (looked k (omega arith) ∙ look_first h g b l) in
      let at-k : header_of o ≡ k = find-place heap k o e in
      let long : extent_at x.image k ≡ extent b =
      ap (λ (d : Header). d.extent) (live_at x.image i.laid.layout k b i.laid.placed (looked k (omega arith) ∙ look_first h g b l)).header
      in
      let behind : (p : Object) → find heap (header_of p) ≡ Some p → h ≤ header_of p → (header_of p ≡ k → ⊥) → end ≤ header_of p =
      λ p f u n.
      let there = known i.laid (header_of p) p f in
      omega (arith, (look_inside end l (header_of p) there.block (sym (look_rest h g b l (header_of p) n) ∙ sym (looked (header_of p) u) ∙ there.there)).from)
      in
      by_bool (eqb b.cue cue)
      (λ t.
      rw t
      (record {
        objects = o ∷ rest.objects;
        sorted = ((λ p m. omega (arith, rest.low p m)), rest.sorted);
        low = in_cons {P = λ p. h ≤ header_of p} o rest.objects (omega arith) (λ p m. omega (arith, rest.low p m));
        live =
            in_cons {P = λ p. (find heap (header_of p) ≡ Some p) × (p.cue ≡ cue)} o rest.objects
            (ap (find heap) at-k ∙ e, c ∙ eqb-true b.cue cue t) rest.live;
        all =
            λ p f u d.
            by_bool (eqb (header_of p) k)
            (λ w. Memᴰ.head (some_same (sym (ap (find heap) (eqb-true (header_of p) k w)) ∙ f) e))
            (λ w. Memᴰ.tail (rest.all p f (behind p f u (eqb-false (header_of p) k w)) d));
        pointers = pointers_to_one s x.image k (places_in cue end l) ∙ (λ n. pointer_kept k o e n ∷ rest.pointers n);
        count = ap suc rest.count;
        held = all_held_one s x k (places_in cue end l) ∙ and_both _ _ (entry_kept k o e) rest.held;
        extents = omega (arith, extents_one x.image k (places_in cue end l), rest.extents, long);
      }))
      (λ t.
      rw t
      (record {
        objects = rest.objects;
        sorted = rest.sorted;
        low = λ p m. omega (arith, rest.low p m);
        live = rest.live;
        all =
            λ p f u d.
            rest.all p f
            (behind p f u
            (λ w. eqb-false b.cue cue t (sym c ∙ sym (ap (λ (q : Object). q.cue) (some_same (sym (ap (find heap) w) ∙ f) e)) ∙ d))) d;
        pointers = rest.pointers;
        count = rest.count;
        held = rest.held;
        extents = omega (arith, rest.extents);
      }))

-- Freeing live objects singly.

-- live objects, no two of them at one header place
pub record Live (heap os : Heap) : Type 0 where
  pub distinct : Distinct os
  pub lives : (o : Object) → In o os → find heap (header_of o) ≡ Some o

-- the first one lives, and the rest do not stand there
pub first_lives : {heap : Heap} {o : Object} {os : Heap} → Live heap (o ∷ os) → find heap (header_of o) ≡ Some o
first_lives {o = o} l = l.lives o (Memᴰ.head refl)

pub rest_apart : {heap : Heap} {o : Object} {os : Heap} → Live heap (o ∷ os) → Apart o os
rest_apart {o = o} {os = os} l = first_apart o os l.distinct

module _ {s L : ℕ} {x : State} {heap : Heap} {i : Invariant s L x heap} {o : Object} {r : Outcome} (f : Emptied i (header_of o) o r) where
  -- others live on when an object is freed
  pub live_on : (os : Heap) → Apart o os → Live heap os → Live (without heap o.answer) os
  live_on os n l =
      record {
        distinct = l.distinct;
        lives = λ p m. f.finds (header_of p) ∙ rw (ne_eqb (header_of p) (header_of o) (λ e. n p m (sym e))) (l.lives p m);
      }

  -- and so the rest, when the first one is
  pub rest_live : (os : Heap) → Live heap (o ∷ os) → Live (without heap o.answer) os
  rest_live os l = live_on os (rest_apart l) (record { distinct = l.distinct.1; lives = λ p m. l.lives p (Memᴰ.tail m) })

-- freeing them one after the other
free_all : {s L : ℕ} {x : State} {heap : Heap} (i : Invariant s L x heap) (os : Heap) → Live heap os → Freed s L x heap os
unfolding answers
free_all {s = s} {L = L} {x = x} {heap = heap} i [] l =
    record {
      each = none_left x;
      new = heap;
      left = subst (λ (y : State). Invariant s L y heap) (sym (free_each_none x)) i;
      gone = λ o m. absurd (Memᴰ.not-nil m);
      stays = λ k n. refl;
    }
free_all {s = s} {L = L} {x = x} {heap = heap} i (o ∷ os) l =
    let h : ℕ = header_of o in
    let f : Emptied i h o (free o.answer x) = free_live i h o (first_lives l) in
    let r : Freed s L (free o.answer x).after (without heap o.answer) os = free_all {x = (free o.answer x).after} f.left os (rest_live f os l) in
    record {
      each = one_freed o.answer (answers os) x (ap returned f.answers) r.each;
      new = r.new;
      left = subst (λ (y : State). Invariant s L y r.new) (sym (free_each_one o.answer (answers os) x)) r.left;
      gone =
          in_cons {P = λ p. find r.new (header_of p) ≡ None} o os
          (r.stays h (λ p m e. rest_apart l p m (sym e)) ∙ f.finds h ∙ rw (eq-eqb h h refl)) r.gone;
      stays = λ k n. r.stays k (λ p m. n p (Memᴰ.tail m)) ∙ f.finds k ∙ rw (ne_eqb k h (λ e. n o (Memᴰ.head refl) (sym e)));
    }

-- The release.
module _ {s L : ℕ} {x : State} {heap : Heap} (i : Invariant s L x heap) (cue : ℕ) where
  -- the cue's objects
  pub mine : Gathered s cue x heap 16 i.laid.layout (places_in cue 16 i.laid.layout)
  mine = gathered i cue 16 i.laid.layout (λ k u. refl)

  -- which they are
  of_cue_lem : (o : Object) → In o mine.objects ↔ (In o heap × (o.cue ≡ cue))
  of_cue_lem o = (
    (λ m. let l = mine.live o m in (find_in heap (header_of o) o l.0, l.1)),
    λ (m : In o heap × (o.cue ≡ cue)).
        let e = in_find heap o i.laid.distinct m.0 in
        mine.all o e (known i.laid (header_of o) o e).live.low m.1,
  )

  -- it frees them
  pub released : release_cue cue x ≡ record { answer = Ok (length mine.objects); after = free_each (answers mine.objects) x }
  released =
      release_is s cue x (places_in cue 16 i.laid.layout) (opens i) (exponent_is i.laid)
      (gather_layout cue x.image i.laid.layout i.laid.placed) mine.held
      (omega (arith, mine.extents, total_is i.laid, i.laid.placed.whole))
      ∙ (λ n. record { answer = Ok (mine.count n); after = free_each (mine.pointers n) x })

  -- the heap's tests of its objects
  abbrev is_mine : Object → Bool
  is_mine o = eqb o.cue cue

  abbrev is_other : Object → Bool
  is_other o = not (eqb o.cue cue)

  -- they are the objects that pass the first
  pub mine_found : (k : ℕ) → find mine.objects k ≡ find (of_cue heap cue) k
  mine_found k = go (find mine.objects k) refl (find heap k) refl
    where
      there : (o : Object) → find heap k ≡ Some o → o.cue ≡ cue → find mine.objects k ≡ Some o
      there o f c =
          ap (find mine.objects) (sym (find-place heap k o f))
          ∙ in_find mine.objects o (sorted_distinct mine.objects mine.sorted) ((of_cue_lem o).1 (find_in heap k o f, c))

      go : (r : Option Object) → find mine.objects k ≡ r → (t : Option Object) → find heap k ≡ t → r ≡ find (of_cue heap cue) k
      go (Some o) e t f =
          let l = mine.live o (find_in mine.objects k o e) in
          let g : find heap k ≡ Some o = ap (find heap) (sym (find-place mine.objects k o e)) ∙ l.0 in
          sym (found-passing is_mine heap k (Some o) i.laid.distinct g ∙ rw (eq-eqb o.cue cue l.1))
      go None e None f = sym (found-passing is_mine heap k None i.laid.distinct f)
      go None e (Some o) f =
          by_bool (eqb o.cue cue)
          (λ c. absurd (none_some e (there o f (eqb-true o.cue cue c))))
          (λ c. sym (found-passing is_mine heap k (Some o) i.laid.distinct f ∙ rw c))

  -- it is accepted, and gives how many they are
  pub release_counts : IsAccepted (release_cue cue x) × (value (release_cue cue x).answer ≡ length (of_cue heap cue))
  release_counts =
      let d : Distinct mine.objects = sorted_distinct mine.objects mine.sorted in
      rw released (refl, same_count mine.objects (of_cue heap cue) d (distinct_passing is_mine heap i.laid.distinct) mine_found)

  -- they live
  pub mine_live : Live heap mine.objects
  mine_live = record { distinct = sorted_distinct mine.objects mine.sorted; lives = λ o m. (mine.live o m).0 }

  -- freeing them singly
  singly : Freed s L x heap mine.objects
  singly = free_all i mine.objects mine_live

  -- leaves the objects that pass the second
  others_left : (k : ℕ) → find singly.new k ≡ find (without_cue heap cue) k
  others_left k = go (find heap k) refl
    where
      go : (r : Option Object) → find heap k ≡ r → find singly.new k ≡ find (without_cue heap cue) k
      go None e =
          singly.stays k (λ o m q. none_some e (ap (find heap) (sym q) ∙ (mine.live o m).0)) ∙ e
          ∙ sym (found-passing is_other heap k None i.laid.distinct e)
      go (Some o) e =
          by_bool (eqb o.cue cue)
          (λ c.
          ap (find singly.new) (sym (find-place heap k o e)) ∙ singly.gone o ((of_cue_lem o).1 (find_in heap k o e, eqb-true o.cue cue c))
          ∙ sym (found-passing is_other heap k (Some o) i.laid.distinct e ∙ rw c))
          (λ c.
          singly.stays k
          (λ p m q.
          let l = mine.live p m in
          eqb-false o.cue cue c (ap (λ (z : Object). z.cue) (some_same e (ap (find heap) (sym q) ∙ l.0)) ∙ l.1))
          ∙ e ∙ sym (found-passing is_other heap k (Some o) i.laid.distinct e ∙ rw c))

  -- and the invariant
  pub release_left : Invariant s L (release_cue cue x).after (without_cue heap cue)
  release_left =
      rw released (relisted singly.left (without_cue heap cue) (distinct_passing is_other heap i.laid.distinct) others_left)

  pub release_step : Invariant s L (release_cue cue x).after (hear heap (releases cue) (release_cue cue x).answer)
  unfolding hear
  release_step = release_left

-- the claim
pub freed_singly : {s L : ℕ} (x : Configuration) → Invariant s L x.state x.heap → (cue : ℕ) → FreedSingly x cue
freed_singly x i cue =
    record {
      objects = (mine i cue).objects;
      ascending = pairwise _ (mine i cue).objects (mine i cue).sorted;
      of_cue_lem = of_cue_lem i cue;
      each_freed = (singly i cue).each;
      same = ap (λ (r : Outcome). r.after) (released i cue);
    }
