-- Laws of the abstract heap, by header places.
-- In order: the object at a place; owners; one object more, changed, less; the objects that pass a test; how many there are. Not here: image and table.
-- Assumes nothing.
use Rattle.std.proofs.Common.{Option, None, Some, ℕ, zero, suc, ◌<◌, ◌≡◌, refl, Bool, true, false, cond, [], ◌∷◌, ◌++◌, length, get_or, eqb, sym, ap, ◌∙◌, ⊎_elim, arith, eq-eqb, ne_eqb, eqb-true}
use Rattle.std.proofs.lemmas.Grind.{common_steps}
use Rattle.std.proofs.lemmas.Bool.{eqb-false}
use mathlib.Core.List.Memᴰ
use Rattle.block.specs.laws.Booleans.{by_bool}
use Rattle.history.specs.Heap.{Object, Heap, holds, owner_of, change, without, passing}
use Rattle.history.specs.History.{In, Pairwise, header_of, known}
use Rattle.history.specs.laws.Plain.{answer_place}
use Rattle.history.proofs.Looks.{two_tests}

-- the first object with its header at k
unfoldable pub find : Heap → ℕ → Option Object
find [] k = None
find (o ∷ os) k = cond (eqb k (header_of o)) (Some o) (find os k)

-- no two objects have one header place
abbrev pub Distinct : Heap → Type 0
Distinct [] = Unit {0}
Distinct (o ∷ os) = (find os (header_of o) ≡ None) × Distinct os

-- nothing is found and not found
pub none_some : {r : Option Object} {o : Object} → r ≡ None → r ≡ Some o → ⊥
none_some e f = cc

pub some_same : {r : Option Object} {o o' : Object} → r ≡ Some o → r ≡ Some o' → o ≡ o'
some_same e f = cc

pub find_here : (o : Object) (os : Heap) (k : ℕ) → k ≡ header_of o → find (o ∷ os) k ≡ Some o
unfolding find
find_here o os k e = rw (eq-eqb k (header_of o) e)

pub find_there : (o : Object) (os : Heap) (k : ℕ) → (k ≡ header_of o → ⊥) → find (o ∷ os) k ≡ find os k
unfolding find
find_there o os k n = rw (ne_eqb k (header_of o) n)

-- what stands behind a first object is what stands elsewhere in the whole list
pub find_rest : (o : Object) (os : Heap) (k : ℕ) → Distinct (o ∷ os) → find os k ≡ cond (eqb k (header_of o)) None (find (o ∷ os) k)
find_rest o os k d = grind (arith, find_there)

-- what is found has its header there
pub find-place : (heap : Heap) (k : ℕ) (o : Object) → find heap k ≡ Some o → header_of o ≡ k
unfolding find
find-place [] k o e = cc
find-place (x ∷ xs) k o e = grind (arith, find-place xs k o)

-- and lives
pub find_in : (heap : Heap) (k : ℕ) (o : Object) → find heap k ≡ Some o → In o heap
unfolding find
find_in [] k o e = cc
find_in (x ∷ xs) k o e =
    by_bool (eqb k (header_of x))
    (λ t. let w : o ≡ x = cc in Memᴰ.head w)
    (λ t. Memᴰ.tail (find_in xs k o (rw t at e)))

-- an object found behind a first one is found all the same
pub found-behind : (x : Object) (xs : Heap) (k : ℕ) (o : Object) → find xs (header_of x) ≡ None → find xs k ≡ Some o → find (x ∷ xs) k ≡ Some o
found-behind x xs k o d e = grind (arith, find_there)

-- a live object is found at its header place
pub in_find : (heap : Heap) (o : Object) → Distinct heap → In o heap → find heap (header_of o) ≡ Some o
in_find [] o d m = absurd (Memᴰ.not-nil m)
in_find (x ∷ xs) o d m =
    ⊎_elim
    (λ (e : o ≡ x). rw e (find_here x xs (header_of x) refl))
    (λ (t : In o xs). found-behind x xs (header_of o) o d.0 (in_find xs o d.1 t))
    (Memᴰ.cases_cons m)

-- at each place of the list stands a live object
get_or_in : (heap : Heap) (i : ℕ) (d : Object) → i < length heap → In (get_or heap i d) heap
get_or_in [] i d l = absurd (omega arith)
get_or_in (x ∷ xs) zero d l = Memᴰ.head refl
get_or_in (x ∷ xs) (suc i) d l = Memᴰ.tail (get_or_in xs i d (omega arith))

-- each object stands in the relation to all behind it
abbrev pub Pairs : (Object → Object → Type 0) → Heap → Type 0
Pairs P [] = Unit {0}
Pairs P (o ∷ os) = ((o' : Object) → In o' os → P o o') × Pairs P os

-- so the earlier of any two places does to the later
pub pairwise : (P : Object → Object → Type 0) (heap : Heap) → Pairs P heap → Pairwise heap P
pairwise P [] c i j d l u = absurd (omega arith)
pairwise P (x ∷ xs) c zero zero d l u = absurd (omega arith)
pairwise P (x ∷ xs) c (suc i) zero d l u = absurd (omega arith)
pairwise P (x ∷ xs) c zero (suc j) d l u = c.0 (get_or xs j d) (get_or_in xs j d (omega arith))
pairwise P (x ∷ xs) c (suc i) (suc j) d l u = pairwise P xs c.1 i j d (omega arith) (omega arith)

-- no object of the list has its header where o has
abbrev pub Apart : Object → Heap → Type 0
Apart o os = (p : Object) → In p os → header_of o ≡ header_of p → ⊥

-- nor one behind the first where the first has
pub first_apart : (o : Object) (os : Heap) → Distinct (o ∷ os) → Apart o os
first_apart o os d p m e = none_some d.0 (ap (find os) e ∙ in_find os p d.1 m)

-- two places of the list have two header places
pub places_apart : (heap : Heap) → Distinct heap → Pairwise heap (λ o o'. header_of o ≡ header_of o' → ⊥)
places_apart heap c = pairwise _ heap (go heap c)
  where
    go : (os : Heap) → Distinct os → Pairs (λ o o'. header_of o ≡ header_of o' → ⊥) os
    go [] e = tt
    go (x ∷ xs) e = (first_apart x xs e, go xs e.1)

-- so what holds of any two live objects with two header places holds of any two places of the list
pub two_places : (heap : Heap) (P : Object → Object → Type 0) → Distinct heap
    → ((o o' : Object) → find heap (header_of o) ≡ Some o → find heap (header_of o') ≡ Some o' → (header_of o ≡ header_of o' → ⊥) → P o o') → Pairwise heap P
two_places heap P c f i j d l u =
    f (get_or heap i d) (get_or heap j d) (in_find heap (get_or heap i d) c (get_or_in heap i d (omega arith)))
    (in_find heap (get_or heap j d) c (get_or_in heap j d u)) (places_apart heap c i j d l u)

-- Owners.

-- a pointer's owner is live and holds it
pub record Owned (heap : Heap) (p : ℕ) (o : Object) : Type 0 where
  pub found : find heap (header_of o) ≡ Some o
  pub mine : holds o p ≡ true

pub owned : (heap : Heap) (p : ℕ) (o : Object) → Distinct heap → owner_of heap p ≡ Some o → Owned heap p o
unfolding owner_of
owned [] p o d e = cc
owned (x ∷ xs) p o d e =
    by_bool (holds x p)
    (λ t. let w : x ≡ o = cc in rw (← w) (record { found = find_here x xs (header_of x) refl; mine = t }))
    (λ t. let i : Owned xs p o = owned xs p o d.1 (rw t at e) in
    record { found = found-behind x xs (header_of o) o d.0 i.found; mine = i.mine })

-- a known pointer has an owner
pub known_owner : (heap : Heap) (p : ℕ) → known heap p ≡ true → (o : Object) × (owner_of heap p ≡ Some o)
unfolding known owner_of
known_owner [] p e = cc
known_owner (x ∷ xs) p e =
    by_bool (holds x p)
    (λ t. rw t (x, refl))
    (λ t. rw t (known_owner xs p (rw t at e)))

-- One object more.

-- a test asked again
again : {A : Type 0} (b : Bool) (x y z : A) → cond b x z ≡ cond b x (cond b y z)
again true x y z = refl
again false x y z = refl

pub find-append : (heap : Heap) (o : Object) (k : ℕ) → find heap (header_of o) ≡ None → find (heap ++ (o ∷ [])) k ≡ cond (eqb k (header_of o)) (Some o) (find heap k)
unfolding find
find-append [] o k e = refl
find-append (x ∷ xs) o k e = grind (arith, find-append xs o k)

pub distinct_append : (heap : Heap) (o : Object) → Distinct heap → find heap (header_of o) ≡ None → Distinct (heap ++ (o ∷ []))
unfolding find
distinct_append [] o d e = (refl, tt)
distinct_append (x ∷ xs) o d e =
    by_bool (eqb (header_of o) (header_of x))
    (λ t. absurd (none_some {o = x} e (rw t)))
    (λ t. (
      find-append xs o (header_of x) (rw t at e)
          ∙ rw (ne_eqb (header_of x) (header_of o) (λ u. eqb-false (header_of o) (header_of x) t (sym u))) d.0,
      distinct_append xs o d.1 (rw t at e),
    ))

-- One object changed, at its header place.

module _ (f : Object → Object) (same : (o : Object) → header_of (f o) ≡ header_of o) where
  change_none : (heap : Heap) (p k : ℕ) → find heap k ≡ None → find (change f heap p) k ≡ None
  unfolding find change
  change_none [] p k e = refl
  change_none (x ∷ xs) p k e = grind (arith, change_none xs p k)

  pub distinct_change : (heap : Heap) (p : ℕ) → Distinct heap → Distinct (change f heap p)
  unfolding change
  distinct_change [] p d = tt
  distinct_change (x ∷ xs) p d =
      by_bool (holds x p)
      (λ u. rw u (rw (same x) d.0, d.1))
      (λ u. rw u (change_none xs p (header_of x) d.0, distinct_change xs p d.1))

  pub find-change : (heap : Heap) (p : ℕ) (o : Object) (k : ℕ) → Distinct heap → owner_of heap p ≡ Some o
      → find (change f heap p) k ≡ cond (eqb k (header_of o)) (Some (f o)) (find heap k)
  unfolding find change owner_of
  find-change [] p o k d e = cc
  find-change (x ∷ xs) p o k d e =
      by_bool (holds x p)
      (λ u. let w : x ≡ o = cc in rw (u, same x, ← w) (again (eqb k (header_of x)) (Some (f x)) (Some x) (find xs k)))
      (λ u. let e' : owner_of xs p ≡ Some o = rw u at e in
      rw (u, find-change xs p o k d.1 e')
      (two_tests k (header_of x) (header_of o) (Some x) (Some (f o)) (find xs k)
      (λ w. none_some d.0 (ap (find xs) w ∙ (owned xs p o d.1 e').found))))

-- nobody's pointer changes nothing
pub change_nobody : (f : Object → Object) (heap : Heap) (p : ℕ) → owner_of heap p ≡ None → change f heap p ≡ heap
unfolding change owner_of
change_nobody f [] p e = refl
change_nobody f (x ∷ xs) p e = grind (arith, change_nobody f xs p)

-- One object less.

pub find-without : (heap : Heap) (o : Object) (k : ℕ) → Distinct heap → find heap (header_of o) ≡ Some o
    → find (without heap o.answer) k ≡ cond (eqb k (header_of o)) None (find heap k)
unfolding find without
find-without [] o k d e = cc
find-without (x ∷ xs) o k d e =
    by_bool (eqb x.answer o.answer)
    (λ t. let w : header_of x ≡ header_of o = answer_place x o (eqb-true x.answer o.answer t) in
    by_bool (eqb k (header_of o))
    (λ u. rw (t, u) (ap (find xs) (eqb-true k (header_of o) u ∙ sym w) ∙ d.0))
    (λ u. rw (t, w, u)))
    (λ t. by_bool (eqb (header_of o) (header_of x))
    (λ u. let w : x ≡ o = cc in absurd (eqb-false x.answer o.answer t (ap (λ (z : Object). z.answer) w)))
    (λ u. rw (t, find-without xs o k d.1 (rw u at e))
    (two_tests k (header_of x) (header_of o) (Some x) None (find xs k) (λ w. eqb-false (header_of o) (header_of x) u (sym w)))))

without_none : (heap : Heap) (p k : ℕ) → find heap k ≡ None → find (without heap p) k ≡ None
unfolding find without
without_none [] p k e = refl
without_none (x ∷ xs) p k e = grind (arith, without_none xs p k)

pub distinct_without : (heap : Heap) (p : ℕ) → Distinct heap → Distinct (without heap p)
unfolding without
distinct_without [] p d = tt
distinct_without (x ∷ xs) p d =
    by_bool (eqb x.answer p)
    (λ u. rw u d.1)
    (λ u. rw u (without_none xs p (header_of x) d.0, distinct_without xs p d.1))

-- a number that allocate gave for no live object takes none out
pub without_nobody : (heap : Heap) (p : ℕ) → ((o : Object) → In o heap → o.answer ≡ p → ⊥) → without heap p ≡ heap
unfolding without
without_nobody [] p n = refl
without_nobody (x ∷ xs) p n =
    rw (ne_eqb x.answer p (n x (Memᴰ.head refl)))
    (ap (λ (r : Heap). x ∷ r) (without_nobody xs p (λ o m. n o (Memᴰ.tail m))))

-- The objects that pass a test.

-- whether an object that was found is one of them
abbrev pub passes : (Object → Bool) → Option Object → Bool
passes test None = false
passes test (Some o) = test o

find-passing : (test : Object → Bool) (heap : Heap) (k : ℕ) → Distinct heap → find (passing test heap) k ≡ cond (passes test (find heap k)) (find heap k) None
unfolding find passing
find-passing test [] k d = refl
find-passing test (x ∷ xs) k d =
    by_bool (eqb k (header_of x))
    (λ t. by_bool (test x)
    (λ u. rw (u, t, u))
    (λ u. rw (u, t, u) (find-passing test xs k d.1 ∙ rw (ap (find xs) (eqb-true k (header_of x) t) ∙ d.0))))
    (λ t. by_bool (test x) (λ u. rw (u, t) (find-passing test xs k d.1)) (λ u. rw (u, t) (find-passing test xs k d.1)))

-- the same, for what was found
pub found-passing : (test : Object → Bool) (heap : Heap) (k : ℕ) (r : Option Object) → Distinct heap → find heap k ≡ r
    → find (passing test heap) k ≡ cond (passes test r) r None
found-passing test heap k r d e = grind (arith, common_steps, find-passing)

pub distinct_passing : (test : Object → Bool) (heap : Heap) → Distinct heap → Distinct (passing test heap)
unfolding passing
distinct_passing test [] d = tt
distinct_passing test (x ∷ xs) d =
    by_bool (test x)
    (λ u. rw u (find-passing test xs (header_of x) d.1 ∙ rw d.0, distinct_passing test xs d.1))
    (λ u. rw u (distinct_passing test xs d.1))

-- of those that pass a wider test, the same pass
pub passing-within : (test wider : Object → Bool) (heap : Heap) → ((o : Object) → test o ≡ true → wider o ≡ true)
    → passing test (passing wider heap) ≡ passing test heap
unfolding passing
passing-within test wider [] e = refl
passing-within test wider (x ∷ xs) e = grind (arith, passing-within test wider xs e)

-- Two lists of the same objects are of one length.

-- one object less
length_without : (heap : Heap) (o : Object) → find heap (header_of o) ≡ Some o → length heap ≡ suc (length (without heap o.answer))
unfolding find without
length_without [] o e = absurd (none_some {o = o} refl e)
length_without (x ∷ xs) o e = grind (arith, length_without xs o)

pub same_count : (heap new : Heap) → Distinct heap → Distinct new → ((k : ℕ) → find heap k ≡ find new k) → length heap ≡ length new
unfolding find
same_count [] [] d d' e = refl
same_count [] (x ∷ xs) d d' e = grind (arith, common_steps, none_some, find_here)
same_count (o ∷ os) new d d' e =
    let there : find new (header_of o) ≡ Some o = sym (e (header_of o)) ∙ find_here o os (header_of o) refl in
    let rest : (k : ℕ) → find os k ≡ find (without new o.answer) k =
    λ k. find_rest o os k d ∙ ap (λ (r : Option Object). cond (eqb k (header_of o)) None r) (e k) ∙ sym (find-without new o k d' there)
    in
    ap suc (same_count os (without new o.answer) d.1 (distinct_without new o.answer d') rest) ∙ sym (length_without new o there)
