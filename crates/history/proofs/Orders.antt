-- Frees and releases in either order, on an image and table with the invariant.
-- In order: two live objects; an object and a list of others; two lists; two cues. Assumes nothing.
use Rattle.std.proofs.Common.{Ok, Option, None, Some, ℕ, ◌≡◌, refl, cond, [], ◌∷◌, length, eqb, sym, ap, ◌∙◌, ne_eqb}
use Rattle.std.proofs.Common.{arith}
use mathlib.Core.List.Memᴰ
use Rattle.store.specs.State.{State, Outcome, returned}
use Rattle.store.specs.Calls.{noted, free, free_each, release_cue}
use Rattle.store.specs.laws.Entries.{noted_either}
use Rattle.store.specs.laws.Release.{free_each_none, free_each_one}
use Rattle.history.specs.Heap.{Object, Heap}
use Rattle.history.specs.History.{In, header_of}
use Rattle.history.specs.Release.{answers}
use Rattle.history.specs.Commuting.{Commute, free_of}
use Rattle.history.proofs.Gaps.{Block, block_at}
use Rattle.history.proofs.Looks.{two_tests}
use Rattle.history.proofs.Heap.{find, some_same, Apart, passing-within}
use Rattle.history.proofs.Invariant.{Invariant, formatted, same-image}
use Rattle.history.proofs.Steps.{Emptied, free_live}
use Rattle.history.proofs.Releases.{sorted_same, Live, first_lives, live_on, rest_live, mine, released, mine_found, mine_live, release_counts, release_left}

-- Two live objects: the same blocks are left, so the image is; the same entries are cleared, so the table is.
pub frees_commute : {s L : ℕ} {x : State} {heap : Heap} (i : Invariant s L x heap) (o o' : Object) → find heap (header_of o) ≡ Some o
    → find heap (header_of o') ≡ Some o' → (header_of o ≡ header_of o' → ⊥) → Commute (free_of o) (free_of o') x
frees_commute {s} {L} {x} {heap} i o o' e e' n =
    let h : ℕ = header_of o in
    let h' : ℕ = header_of o' in
    let n' : h' ≡ h → ⊥ = λ q. n (sym q) in
    let a = free_live i h o e in
    let b = free_live i h' o' e' in
    let a-b = free_live a.left h' o' (a.finds h' ∙ rw (ne_eqb h' h n') e') in
    let b-a = free_live b.left h o (b.finds h ∙ rw (ne_eqb h h' n) e) in
    let looks : (k : ℕ) → block_at a-b.left.laid.layout k ≡ block_at b-a.left.laid.layout k =
    λ k.
    a-b.looks k ∙ ap (λ (r : Option Block). cond (eqb k h') None r) (a.looks k)
    ∙ two_tests k h' h None None (block_at i.laid.layout k) n'
    ∙ sym (b-a.looks k ∙ ap (λ (r : Option Block). cond (eqb k h) None r) (b.looks k))
    in
    let table : (free o'.answer (free o.answer x).after).after.table ≡ (free o.answer (free o'.answer x).after).after.table =
    a-b.cleared ∙ ap (noted s h' o'.size 0) a.cleared
    ∙ noted_either s h o.size h' o'.size 0 x.table
    ∙ sym (b-a.cleared ∙ ap (noted s h o.size 0) b.cleared)
    in
    record {
      a_accepted = ap returned a.answers;
      b_accepted = ap returned b.answers;
      a_answer = b-a.answers ∙ sym a.answers;
      b_answer = a-b.answers ∙ sym b.answers;
      same = λ k. record { image = same-image (formatted a-b.left.laid) (formatted b-a.left.laid) looks k; table = table k };
    }

-- An object and a list of others: it is freed before them or behind them.
one_past : {s L : ℕ} {x : State} {heap : Heap} (i : Invariant s L x heap) (o : Object) (os : Heap) → find heap (header_of o) ≡ Some o → Live heap os
    → Apart o os → free_each (answers os) (free o.answer x).after ≡ (free o.answer (free_each (answers os) x)).after
unfolding answers
one_past {x = x} i o [] e l n = grind (arith, free_each_none)
one_past {x = x} i o (p ∷ os) e l n =
    let apart : header_of o ≡ header_of p → ⊥ = n p (Memᴰ.head refl) in
    let f : Emptied i (header_of p) p (free p.answer x) = free_live i (header_of p) p (first_lives l) in
    free_each_one p.answer (answers os) (free o.answer x).after
    ∙ ap (free_each (answers os)) (frees_commute i o p e (first_lives l) apart).same
    ∙ one_past {x = (free p.answer x).after} f.left o os (f.finds (header_of o) ∙ rw (ne_eqb (header_of o) (header_of p) apart) e) (rest_live f os l) (λ q m. n q (Memᴰ.tail m))
    ∙ ap (λ (y : State). (free o.answer y).after) (sym (free_each_one p.answer (answers os) x))

-- Two lists of live objects, none in both.
lists_commute : {s L : ℕ} {x : State} {heap : Heap} (i : Invariant s L x heap) (os ps : Heap) → Live heap os → Live heap ps
    → ((o : Object) → In o os → Apart o ps)
    → free_each (answers ps) (free_each (answers os) x) ≡ free_each (answers os) (free_each (answers ps) x)
unfolding answers
lists_commute {x = x} i [] ps l m n = grind (arith, free_each_none)
lists_commute {x = x} i (o ∷ os) ps l m n =
    let apart : Apart o ps = n o (Memᴰ.head refl) in
    let f : Emptied i (header_of o) o (free o.answer x) = free_live i (header_of o) o (first_lives l) in
    ap (free_each (answers ps)) (free_each_one o.answer (answers os) x)
    ∙ lists_commute {x = (free o.answer x).after} f.left os ps (rest_live f os l) (live_on f ps apart m) (λ q w. n q (Memᴰ.tail w))
    ∙ ap (free_each (answers os)) (one_past i o ps (first_lives l) m apart)
    ∙ sym (free_each_one o.answer (answers os) (free_each (answers ps) x))

-- Two cues.
module _ {s L : ℕ} {x : State} {heap : Heap} (i : Invariant s L x heap) where
  -- the objects of a cue, in the order of their addresses
  abbrev objects : ℕ → Heap
  objects c = (mine i c).objects

  -- they are the same behind the release of another cue
  objects_stay : (c d : ℕ) → (c ≡ d → ⊥) → (mine (release_left i c) d).objects ≡ objects d
  objects_stay c d n = grind (arith, passing-within, sorted_same, mine_found)

  -- so the second release frees them, and answers as if it were the first
  second : (c d : ℕ) → (c ≡ d → ⊥)
      → release_cue d (release_cue c x).after
      ≡ record { answer = (release_cue d x).answer; after = free_each (answers (objects d)) (free_each (answers (objects c)) x) }
  second c d n =
      released (release_left i c) d
      ∙ (λ k.
      record {
        answer = (ap (λ (os : Heap). Ok (length os)) (objects_stay c d n) ∙ sym (ap (λ (r : Outcome). r.answer) (released i d))) k;
        after = free_each (answers (objects_stay c d n k)) (released i c k).after;
      })

  -- so the two releases are two lists of frees
  pub releases_commute : (c d : ℕ) → (c ≡ d → ⊥) → Commute (release_cue c) (release_cue d) x
  releases_commute c d n =
      let n' : d ≡ c → ⊥ = λ q. n (sym q) in
      record {
        a_accepted = (release_counts i c).0;
        b_accepted = (release_counts i d).0;
        a_answer = ap (λ (r : Outcome). r.answer) (second d c n');
        b_answer = ap (λ (r : Outcome). r.answer) (second c d n);
        same =
            ap (λ (r : Outcome). r.after) (second c d n)
            ∙ lists_commute i (objects c) (objects d) (mine_live i c) (mine_live i d)
            (λ o m p w q.
            let a = (mine i c).live o m in
            let b = (mine i d).live p w in
            n (sym a.1 ∙ ap (λ (z : Object). z.cue) (some_same a.0 (ap (find heap) q ∙ b.0)) ∙ b.1))
            ∙ sym (ap (λ (r : Outcome). r.after) (second d c n'));
      }
