-- Each call keeps the invariant, and what it answers.
-- In order: bytes inside an object; allocate; free; a changed object; move; load; store, fill and copy; text copy. Not here: what follows for a list
-- (`Theorem`). Assumes nothing.
use Rattle.std.proofs.Common.{Err, None, Ok, Option, Some, ℕ, ◌+◌, ◌-◌, ◌^◌, ◌≤◌, ◌<◌, ◌≡◌, refl, true, false, cond, ◌&&◌, List, [], ◌∷◌, ◌++◌, length, take, drop, replicate, leb, ltb, eqb, ℤ, sym, ap, ◌∙◌, subst, arith, length-drop, length-take-le, take_all, eq-eqb, eqb-true, leb-true, le-leb}
use Rattle.std.proofs.lemmas.Bool.{eqb-false}
use Rattle.std.proofs.Math.ListN.{length-replicate}
use Rattle.std.proofs.Math.Bool.{and-true, and-false}
use Rattle.frame.specs.Pointers.{unpack, pack, good_tag, reach, moved}
use Rattle.frame.specs.Tags.{pointer_to}
use Rattle.frame.specs.laws.Objects.{unpack_address, moved_pointer, own_again}
use Rattle.frame.proofs.Objects.{own_pointer}
use Rattle.frame.specs.declared.parts.Pointer.{Pointer}
use Rattle.block.specs.laws.Booleans.{by_bool, refuted, true_false, and_left, and_right, and_both}
use Rattle.block.specs.Bytes.{encode, put}
use Rattle.block.specs.laws.Fields.{length-encode}
use Rattle.block.specs.laws.Writes.{length-put}
use Rattle.block.specs.Text.{text_of}
use Rattle.block.specs.laws.Text.{text_bound}
use Rattle.block.specs.Layout.{stored_total, extent_at, size_at}
use Rattle.store.specs.State.{State, state, Outcome, outcome, refusal_number, returned, demand, refuse}
use Rattle.store.specs.Calls.{entry_holds, taken_extent, allotted, noted, given_back, located, moved_by, good_width, total_fits, allocate_for, move, load, store, fill, copy, text_answer, text_at, copy_text, free}
use Rattle.store.specs.laws.TagReading.{Located, located_parts, located_refusal}
use Rattle.store.specs.Step.{frees, moves, loads, stores, fills, copies, copies_text, allocates_for}
use Rattle.store.specs.laws.Load.{load_leaves}
use Rattle.store.specs.laws.Move.{moved_bad, moved_out, moved_in, move-outcome}
use Rattle.store.specs.laws.Entries.{entry_holds_lem}
use Rattle.store.specs.laws.Access.{through}
use Rattle.store.specs.laws.Total.{total_fits_lem}
use Rattle.store.specs.laws.Allocate.{allocate_refuses_full, allocate-at}
use Rattle.store.specs.laws.Store.{store-through, store_refuses_width, store_refuses_large}
use Rattle.store.specs.laws.Fill.{fill-through, fill_refuses_empty}
use Rattle.store.specs.laws.Copy.{copy-through, copy_refuses_empty}
use Rattle.store.specs.laws.CopyText.{text_ended, text_endless, text_located, copy_text-through, copy_text_refuses}
use Rattle.store.specs.laws.Free.{free_unread, free_refuses_base, free_lost, free_merges}
use Rattle.store.specs.declared.answer.Refusal.{Refusal}
use Rattle.store.specs.declared.answer.Refusal.TheVariants.{Unsound, NoSpace, NotBase, OutOfBounds, Unterminated}
use Rattle.store.specs.State.{Answer}
use Rattle.history.specs.Heap.{Object, Heap, start, member, owner_of, offset, inside, bytes_at, written, pointed, new_object, change, without, write, copied, text_in, copied_text, text_copied, hear}
use Rattle.history.specs.History.{In, header_of}
use Rattle.history.proofs.Gaps.{Block, Layout, block_at, Clear, patched}
use Rattle.history.proofs.Image.{read_body, Rewritten, write_body, Carved, Fitted, room, full, fitted, Freed, freed, not-freed, gaps_in}
use Rattle.history.proofs.Heap.{find, none_some, some_same, find-place, find_in, in_find, Owned, owned, find-append, distinct_append, find-change, distinct_change, change_nobody, find-without, distinct_without, without_nobody}
use Rattle.history.proofs.Table.{Tabled, added, entry_zero, gone, same-table}
use Rattle.history.proofs.Invariant.{Fine, content, Formatted, Laid, Invariant, block_content, object_content, known, object_of, no_object, ranged, exponent_is, total_is, formatted, remade, retotalled, relaid, agree_cond, opens, answer_leads, owner_leads, accesses}

-- every object is fine after one is put in or changed
fine_cond : (s : ℕ) (heap new : Heap) (h : ℕ) (o : Object) → ((k : ℕ) → find new k ≡ cond (eqb k h) (Some o) (find heap k)) → Fine s h o
    → ((k : ℕ) (y : Object) → find heap k ≡ Some y → Fine s k y) → (k : ℕ) (y : Object) → find new k ≡ Some y → Fine s k y
fine_cond s heap new h o law f g k y e =
    by_bool (eqb k h)
    (λ t. let v : o ≡ y = some_same (rw t at (law k)) e in rw (eqb-true k h t, ← v) f)
    (λ t. g k y (sym (rw t at (law k)) ∙ e))

-- bytes inside an object, by the ends of both

inside_range : (o : Object) (p n : ℕ) → inside o p n ≡ true → (start o ≤ (unpack p).address) × ((unpack p).address + n ≤ start o + o.size)
unfolding inside
inside_range o p n t = (
  leb-true _ _ (and_left _ (leb ((unpack p).address + n) (start o + o.size)) t),
  leb-true _ _ (and_right (leb (start o) (unpack p).address) _ t),
)

in_range_lem : (o : Object) (p n : ℕ) → start o ≤ (unpack p).address → (unpack p).address + n ≤ start o + o.size → inside o p n ≡ true
unfolding inside
in_range_lem o p n low high = and_both _ _ (le-leb _ _ low) (le-leb _ _ high)

-- Allocate.

-- how allocate ends: no clear run, or a new object
pub data Allocated (s L : ℕ) (x : State) (heap : Heap) (i : Invariant s L x heap) (size type cue : ℕ) : Type 0 where
  no_room :
      allocate_for size type cue x ≡ refuse NoSpace x → ((a : ℕ) → Clear x.image i.laid.layout a (16 + size) → ⊥)
      → Allocated s L x heap i size type cue
  given :
      (h : ℕ) → Clear x.image i.laid.layout h (16 + size)
      → allocate_for size type cue x ≡ outcome (Ok (pack (pointer_to s h size))) (allotted x.image h size type cue) (noted s h size h x.table)
      → Invariant s L (state (allotted x.image h size type cue) (noted s h size h x.table)) (heap ++ (new_object (pack (pointer_to s h size)) size cue ∷ []))
      → Allocated s L x heap i size type cue

-- Free.

-- allocate gave the number for no live object
abbrev pub Nobody : Heap → ℕ → Type 0
Nobody heap p = (o : Object) → In o heap → o.answer ≡ p → ⊥

-- what the free of the live object at h answers, and leaves
pub record Emptied {s L : ℕ} {x : State} {heap : Heap} (i : Invariant s L x heap) (h : ℕ) (o : Object) (r : Outcome) : Type 0 where
  pub answers : r.answer ≡ Ok 0
  pub left : Invariant s L r.after (without heap o.answer)
  pub finds : (k : ℕ) → find (without heap o.answer) k ≡ cond (eqb k h) None (find heap k)
  pub looks : (k : ℕ) → block_at left.laid.layout k ≡ cond (eqb k h) None (block_at i.laid.layout k)
  pub cleared : r.after.table ≡ noted s h o.size 0 x.table

-- how free ends: an object is taken out, or the refusal, not by 22, of a number that is nobody's
pub data Freeing (s L : ℕ) (x : State) (heap : Heap) (p : ℕ) : Type 0 where
  taken :
      (o : Object) → In o heap → o.answer ≡ p → returned (free p x).answer ≡ 0 → Invariant s L (free p x).after (without heap p)
      → Freeing s L x heap p
  declined : (r : Refusal) → free p x ≡ refuse r x → (refusal_number r ≡ 22 → ⊥) → Nobody heap p → Freeing s L x heap p

module _ {s L : ℕ} {x : State} {heap : Heap} (i : Invariant s L x heap) where
  -- the new object at h
  module _ (size type cue h : ℕ) (c : Carved x.image i.laid.layout size type cue h) where
    new : Object
    new = new_object (pack (pointer_to s h size)) size cue

    new_fits : h + 16 + size ≤ 2 ^ 30
    new_fits = grind arith

    new-place : header_of new ≡ h
    unfolding new
    new-place = grind (arith, unpack_address)

    new_vacant : find heap h ≡ None
    new_vacant = no_object i.laid h c.vacant

    new_law : (k : ℕ) → find (heap ++ (new ∷ [])) k ≡ cond (eqb k h) (Some new) (find heap k)
    new_law k = grind (arith, find-append, new-place)

    new_fine : Fine s h new
    unfolding new member
    new_fine =
        record {
          answered = refl;
          counted = length-replicate size 0;
          good =
              λ p m.
              by_bool (eqb p (pack (pointer_to s h size)))
              (λ t. rw (eqb-true p (pack (pointer_to s h size)) t) (own_pointer s h size i.laid.shape.exponent_high new_fits))
              (λ t. cc);
        }

    -- the total has its extent
    new-total : taken_extent x.image h size ≤ stored_total x.image
    new-total = omega (arith, c.taken, total_is i.laid)

    new_laid : Laid s L (allotted x.image h size type cue) (heap ++ (new ∷ []))
    unfolding new
    new_laid =
        relaid i.laid (heap ++ (new ∷ [])) (retotalled i.laid _ c.remade (omega (arith, c.taken, total_is i.laid)))
        (λ k.
        ap block_content (c.looks k)
        ∙ agree_cond (eqb k h) (Some c.block) (block_at i.laid.layout k) (Some new) (find heap k) (λ n. Some (content (c.for_cue n) (c.zeroed n))) (i.laid.agree k)
        ∙ ap object_content (sym (new_law k)))
        (fine_cond s heap (heap ++ (new ∷ [])) h new new_law new_fine i.laid.fine)
        (distinct_append heap new i.laid.distinct (ap (find heap) new-place ∙ new_vacant))

    new_tabled : Tabled s L (heap ++ (new ∷ [])) (noted s h size h x.table)
    unfolding new
    new_tabled = added s L heap x.table i.tabled (heap ++ (new ∷ [])) (ranged new_laid) h new new_vacant new_law

    new_entry : entry_holds s h size 0 x.table ≡ true
    unfolding new
    new_entry = entry_holds_lem s h size 0 x.table (λ l. entry_zero s L heap x.table i.tabled (heap ++ (new ∷ [])) (ranged new_laid) h new new_vacant new_law l)

    new-given : Allocated s L x heap i size type cue
    unfolding new
    new-given =
        given h c.clear (allocate-at s x (opens i) size type cue h (exponent_is i.laid) c.found new_entry new-total)
        (record { laid = new_laid; tabled = new_tabled })

  pub allocated : (size type cue : ℕ) → type < 2 ^ 16 → cue < 2 ^ 32 → Allocated s L x heap i size type cue
  allocated size type cue fits cue_fits = go (fitted x.image i.laid.layout i.laid.placed size type cue fits cue_fits)
    where
      go : Fitted x.image i.laid.layout size type cue → Allocated s L x heap i size type cue
      go (room h c) = new-given size type cue h c
      go (full f n) = no_room (allocate_refuses_full s x (opens i) size type cue f) n

  pub allocate-step : (size type cue : ℕ) → type < 2 ^ 16 → cue < 2 ^ 32
      → Invariant s L (allocate_for size type cue x).after (hear heap (allocates_for size type cue) (allocate_for size type cue x).answer)
  unfolding hear
  allocate-step size type cue fits cue_fits = go (allocated size type cue fits cue_fits)
    where
      go : Allocated s L x heap i size type cue
          → Invariant s L (allocate_for size type cue x).after (hear heap (allocates_for size type cue) (allocate_for size type cue x).answer)
      go (no_room f n) = rw f i
      go (given h c f j) = rw f j

  -- Free.

  -- allocate's answer for a live object, at its header place
  answer_found : (p : ℕ) (o : Object) → In o heap → o.answer ≡ p → (located s (unpack p) x ≡ Ok (header_of o)) × ((unpack p).address ≡ header_of o + 16)
  answer_found p o m a =
      let f : find heap (header_of o) ≡ Some o = in_find heap o i.laid.distinct m in (
        ap (λ (q : ℕ). located s (unpack q) x) (sym a) ∙ answer_leads i (header_of o) o f,
        ap (λ (q : ℕ). (unpack q).address) (sym a) ∙ (known i.laid (header_of o) o f).begins,
      )

  -- it leads nowhere else
  answer_only : (p h : ℕ) (o : Object) → In o heap → o.answer ≡ p → located s (unpack p) x ≡ Ok h → header_of o ≡ h
  answer_only p h o m a e = grind (arith, answer_found)

  module _ (h : ℕ) (b : Block) (o : Object) (e : find heap h ≡ Some o) (f : Freed x.image i.laid.layout h b) where
    gone_law : (k : ℕ) → find (without heap o.answer) k ≡ cond (eqb k h) None (find heap k)
    gone_law k = grind (arith, find-place, find-without)

    unfoldable gone_laid : Laid s L (given_back x.image h f.from f.to) (without heap o.answer)
    gone_laid =
        relaid i.laid (without heap o.answer) (retotalled i.laid _ f.remade (omega (arith, f.given, total_is i.laid)))
        (λ k.
        ap block_content (f.looks k) ∙ agree_cond (eqb k h) None (block_at i.laid.layout k) None (find heap k) refl (i.laid.agree k)
        ∙ ap object_content (sym (gone_law k)))
        (λ k y g.
        by_bool (eqb k h)
        (λ t. absurd (none_some (rw t at (gone_law k)) g))
        (λ t. i.laid.fine k y (sym (rw t at (gone_law k)) ∙ g)))
        (distinct_without heap o.answer i.laid.distinct)

    gone_table : noted s h (size_at x.image h) 0 x.table ≡ noted s h o.size 0 x.table
    gone_table = ap (λ (n : ℕ). noted s h n 0 x.table) (known i.laid h o e).size

    gone_emptied : Emptied i h o (outcome (Ok 0) (given_back x.image h f.from f.to) (noted s h (size_at x.image h) 0 x.table))
    unfolding gone_laid relaid
    gone_emptied =
        record {
          answers = refl;
          left = record {
            laid = gone_laid;
            tabled = rw gone_table (gone s L heap x.table i.tabled (ranged i.laid) (without heap o.answer) h o e gone_law);
          };
          finds = gone_law;
          looks = f.looks;
          cleared = gone_table;
        }

  -- row 22 lets its free pass
  free_fits : (h : ℕ) (b : Block) → Freed x.image i.laid.layout h b → total_fits x.image (extent_at x.image h) ≡ true
  free_fits h b f =
      total_fits_lem x.image (extent_at x.image h)
      (omega (arith, f.given, total_is i.laid, gaps_in _ f.next f.remade.placed, f.remade.same_length))

  -- a live object is freed by allocate's answer
  pub free_live : (h : ℕ) (o : Object) → find heap h ≡ Some o → Emptied i h o (free o.answer x)
  free_live h o e =
      let n = known i.laid h o e in
      let f = freed x.image i.laid.layout h n.block i.laid.placed n.there in
      subst (Emptied i h o)
      (sym
      (free_merges s x (opens i) o.answer h (answer_leads i h o e) (eq-eqb _ _ n.begins) f.from f.to (exponent_is i.laid) f.merges
      (free_fits h n.block f)))
      (gone_emptied h n.block o e f)

  pub freeing : (p : ℕ) → p < 2 ^ 64 → Freeing s L x heap p
  freeing p fits = read (located s (unpack p) x) refl
    where
      found : (h : ℕ) (o : Object) → located s (unpack p) x ≡ Ok h → eqb (unpack p).address (h + 16) ≡ true → find heap h ≡ Some o
          → Freeing s L x heap p
      found h o e t g =
          let r : Located s (unpack p) x h = located_parts s (unpack p) x h e in
          let a : o.answer ≡ p =
          (i.laid.fine h o g).answered ∙ ap (λ (n : ℕ). pack (pointer_to s h n)) (sym (known i.laid h o g).size)
          ∙ own_again s h (size_at x.image h) p fits r.header.matches (eqb-true _ _ t)
          in
          let f : Emptied i h o (free o.answer x) = free_live h o g in
          taken o (find_in heap h o g) a (subst (λ (z : ℕ). returned (free z x).answer ≡ 0) a (ap returned f.answers))
          (subst (λ (z : ℕ). Invariant s L (free z x).after (without heap z)) a f.left)

      base : (h : ℕ) → located s (unpack p) x ≡ Ok h → eqb (unpack p).address (h + 16) ≡ true → (r : Option Block) → block_at i.laid.layout h ≡ r
          → Freeing s L x heap p
      base h e t None g =
          let r : Located s (unpack p) x h = located_parts s (unpack p) x h e in
          declined Unsound
          (free_lost s x (opens i) p h e t Unsound (not-freed x.image i.laid.layout h i.laid.placed g r.header.is_live_lem r.header.is_sound))
          (λ z. omega arith)
          (λ o m a. none_some (no_object i.laid h g) (ap (find heap) (sym (answer_only p h o m a e)) ∙ in_find heap o i.laid.distinct m))
      base h e t (Some b) g =
          let o = object_of i.laid h b g in
          found h o.0 e t o.1

      read : (r : Answer) → located s (unpack p) x ≡ r → Freeing s L x heap p
      read (Err r) e =
          declined r (free_unread s x (opens i) p r e) (λ z. omega (arith, (located_refusal s (unpack p) x r e).1))
          (λ o m a. let f : located s (unpack p) x ≡ Ok (header_of o) = (answer_found p o m a).0 in cc)
      read (Ok h) e =
          by_bool (eqb (unpack p).address (h + 16))
          (λ t. base h e t (block_at i.laid.layout h) refl)
          (λ t. declined NotBase (free_refuses_base s x (opens i) p h e t) (λ z. omega arith)
          (λ o m a. eqb-false _ _ t ((answer_found p o m a).1 ∙ ap (λ (k : ℕ). k + 16) (answer_only p h o m a e))))

  pub free_step : (p : ℕ) → p < 2 ^ 64 → Invariant s L (free p x).after (hear heap (frees p) (free p x).answer)
  unfolding hear
  free_step p fits = go (freeing p fits)
    where
      go : Freeing s L x heap p → Invariant s L (free p x).after (without heap p)
      go (taken o m a q j) = j
      go (declined r q t n) = rw (q, without_nobody heap p n) i

  -- An object changes, and neither its answer nor its size.

  module _ (p : ℕ) (o : Object) (e : owner_of heap p ≡ Some o) (f : Object → Object) (same : (y : Object) → header_of (f y) ≡ header_of y)
      (size : (f o).size ≡ o.size) (fine : Fine s (header_of o) (f o)) where
    change_law : (k : ℕ) → find (change f heap p) k ≡ cond (eqb k (header_of o)) (Some (f o)) (find heap k)
    change_law k = find-change f same heap p o k i.laid.distinct e

    changed : (image' : List ℕ) (next : Layout) (b : Block) → Formatted s L image' next → b.cue ≡ (f o).cue → b.body ≡ (f o).bytes
        → ((k : ℕ) → block_at next k ≡ cond (eqb k (header_of o)) (Some b) (block_at i.laid.layout k))
        → Invariant s L (state image' x.table) (change f heap p)
    changed image' next b m cue body looks =
        record {
          laid =
              relaid i.laid (change f heap p) m
              (λ k.
              ap block_content (looks k)
              ∙ agree_cond (eqb k (header_of o)) (Some b) (block_at i.laid.layout k) (Some (f o)) (find heap k) (λ n. Some (content (cue n) (body n))) (i.laid.agree k)
              ∙ ap object_content (sym (change_law k)))
              (fine_cond s heap (change f heap p) (header_of o) (f o) change_law fine i.laid.fine)
              (distinct_change f same heap p i.laid.distinct);
          tabled =
              same-table s L heap x.table i.tabled (change f heap p) (header_of o) o (f o) (owned heap p o i.laid.distinct e).found size change_law;
        }

  -- Move.

  -- the pointer's object has one pointer more
  move_owned : (p : ℕ) (o : Object) (d : ℤ) (q : Pointer) → owner_of heap p ≡ Some o → moved (unpack p) (reach s (unpack p)) d ≡ Some q
      → Invariant s L x (change (pointed (pack q)) heap p)
  unfolding member
  move_owned p o d q e m =
      let w : Owned heap p o = owned heap p o i.laid.distinct e in
      let n = known i.laid (header_of o) o w.found in
      let f : Fine s (header_of o) o = i.laid.fine (header_of o) o w.found in
      changed p o e (pointed (pack q)) (λ y. refl) refl
      (record {
        answered = f.answered;
        counted = f.counted;
        good =
            λ r t.
            by_bool (eqb r (pack q))
            (λ u. rw (eqb-true r (pack q) u) (moved_pointer s (header_of o) o.size p q d (f.good p w.mine) m))
            (λ u. f.good r (rw u at t));
      })
      x.image i.laid.layout n.block (formatted i.laid) n.cue n.body
      (λ k. by_bool (eqb k (header_of o)) (λ t. rw t (ap (block_at i.laid.layout) (eqb-true k (header_of o) t) ∙ n.there)) (λ t. rw t))

  move-to : (p : ℕ) (d : ℤ) → good_tag s (unpack p) ≡ true → (r : Option Pointer) → moved (unpack p) (reach s (unpack p)) d ≡ r
      → Invariant s L x (hear heap (moves p d) (moved_by s (unpack p) d))
  unfolding hear
  move-to p d t None m = rw (← moved_out s (unpack p) d t m) i
  move-to p d t (Some q) m = rw (← moved_in s (unpack p) d q t m) (go (owner_of heap p) refl)
    where
      go : (r : Option Object) → owner_of heap p ≡ r → Invariant s L x (change (pointed (pack q)) heap p)
      go None e = rw (change_nobody (pointed (pack q)) heap p e) i
      go (Some o) e = move_owned p o d q e m

  move-refused : (p : ℕ) (d : ℤ) → good_tag s (unpack p) ≡ false
      → Invariant s L x (hear heap (moves p d) (moved_by s (unpack p) d))
  unfolding hear
  move-refused p d t = rw (← moved_bad s (unpack p) d t) i

  pub move_step : (p : ℕ) (d : ℤ) → Invariant s L (move p d x).after (hear heap (moves p d) (move p d x).answer)
  move_step p d =
      rw (move-outcome s x (opens i) p d)
      (by_bool (good_tag s (unpack p))
      (λ t. move-to p d t (moved (unpack p) (reach s (unpack p)) d) refl)
      (λ t. move-refused p d t))

  -- Load.

  pub load_step : (p width : ℕ) → Invariant s L (load p width x).after (hear heap (loads p width) (load p width x).answer)
  unfolding hear
  load_step p width = rw (load_leaves p width x) i

  -- Store, fill and copy.

  -- bytes inside an object, through one of its pointers
  pub record Span (p : ℕ) (o : Object) (n : ℕ) : Type 0 where
    pub owner : Owned heap p o
    pub at_address : header_of o + 16 + offset o p ≡ (unpack p).address
    pub fits : offset o p + n ≤ o.size

  pub span : (p : ℕ) (o : Object) (n : ℕ) → owner_of heap p ≡ Some o → inside o p n ≡ true → Span p o n
  span p o n e t =
      let w : Owned heap p o = owned heap p o i.laid.distinct e in
      let b : start o ≡ header_of o + 16 = (known i.laid (header_of o) o w.found).begins in
      let (low, high) = inside_range o p n t in
      record { owner = w; at_address = omega (arith, low); fits = omega (arith, low, high) }

  -- they are the heap's
  pub read_through : (p : ℕ) (o : Object) (n : ℕ) → owner_of heap p ≡ Some o → inside o p n ≡ true → take n (drop (unpack p).address x.image) ≡ bytes_at o p n
  read_through p o n e t =
      let w : Span p o n = span p o n e t in
      let q = known i.laid (header_of o) o w.owner.found in
      let c : length o.bytes ≡ o.size = (i.laid.fine (header_of o) o w.owner.found).counted in
      ap (λ (a : ℕ). take n (drop a x.image)) (sym w.at_address)
      ∙ read_body x.image i.laid.layout (header_of o) q.block i.laid.placed q.there (offset o p) n (omega (arith, ap length q.body, w.fits))
      ∙ ap (λ (b : List ℕ). take n (drop (offset o p) b)) q.body

  -- a write of so many
  pub wrote : (p : ℕ) (o : Object) (n : ℕ) (bytes : List ℕ) → owner_of heap p ≡ Some o → length bytes ≡ n → inside o p n ≡ true
      → Invariant s L (state (put x.image (unpack p).address bytes) x.table) (change (written p bytes) heap p)
  wrote p o n bytes e l t =
      let w : Span p o n = span p o n e t in
      let q = known i.laid (header_of o) o w.owner.found in
      let f : Fine s (header_of o) o = i.laid.fine (header_of o) o w.owner.found in
      let room : offset o p + length bytes ≤ length q.block.body = omega (arith, ap length q.body, f.counted, w.fits) in
      let r : Rewritten x.image i.laid.layout (header_of o) q.block (patched q.block (offset o p) bytes) (put x.image (unpack p).address bytes) =
      subst
      (λ (a : ℕ). Rewritten x.image i.laid.layout (header_of o) q.block (patched q.block (offset o p) bytes) (put x.image a bytes)) w.at_address
      (write_body x.image i.laid.layout (header_of o) q.block i.laid.placed q.there (offset o p) bytes room)
      in
      changed p o e (written p bytes) (λ y. refl) refl
      (record {
        answered = f.answered;
        counted = length-put o.bytes (offset o p) bytes (omega (arith, f.counted, w.fits)) ∙ f.counted;
        good = f.good;
      })
      (put x.image (unpack p).address bytes) r.next (patched q.block (offset o p) bytes) (remade i.laid r.remade r.same_gaps) q.cue
      (ap (λ (b : List ℕ). put b (offset o p) bytes) q.body) r.looks

  -- so many bytes through a pointer, refused or not
  wrote_through : (p : ℕ) (o : Object) (n : ℕ) (bytes : List ℕ) → owner_of heap p ≡ Some o → length bytes ≡ n
      → (v : ℕ) → Invariant s L (through x v (inside o p n) (unpack p).address bytes).after (write (Some o) p n bytes heap)
  unfolding write
  wrote_through p o n bytes e l v =
      by_bool (inside o p n)
      (λ t. rw t (wrote p o n bytes e l t))
      (λ t. rw t i)

  pub store_step : (p width v : ℕ) (o : Object) → owner_of heap p ≡ Some o
      → Invariant s L (store p width v x).after (hear heap (stores p width v) (store p width v x).answer)
  unfolding hear
  store_step p width v o e =
      by_bool (good_width width)
      (λ g. by_bool (ltb v (256 ^ width))
      (λ l.
      rw (store-through s x (opens i) p width v (unpack p).address (inside o p width) g l (accesses i p o width e), g, l, e)
      (wrote_through p o width (encode width v) e (length-encode width v) 0))
      (λ l. rw (store_refuses_large s x (opens i) p width v g l, g, l) i))
      (λ g. rw (store_refuses_width s x (opens i) p width v g, g) i)

  pub fill_step : (p n byte : ℕ) (o : Object) → owner_of heap p ≡ Some o
      → Invariant s L (fill p n byte x).after (hear heap (fills p n byte) (fill p n byte x).answer)
  unfolding hear
  fill_step p n byte o e =
      by_bool (ltb 0 n)
      (λ l.
      rw (fill-through s x (opens i) p n byte (unpack p).address (inside o p n) l (accesses i p o n e), l, e)
      (wrote_through p o n (replicate n byte) e (length-replicate n byte) 0))
      (λ l. rw (fill_refuses_empty s x (opens i) p n byte l, l) i)

  -- the source's bytes are as many
  length_bytes : (p : ℕ) (o : Object) (n : ℕ) → owner_of heap p ≡ Some o → inside o p n ≡ true → length (bytes_at o p n) ≡ n
  length_bytes p o n e t =
      let w : Span p o n = span p o n e t in
      length-take-le n (drop (offset o p) o.bytes)
      (simp length-drop (omega (arith, (i.laid.fine (header_of o) o w.owner.found).counted, w.fits)))

  copied-through : (t p : ℕ) (o o' : Object) (n : ℕ) → owner_of heap t ≡ Some o → owner_of heap p ≡ Some o'
      → (v : ℕ) → Invariant s L (through x v (inside o t n && inside o' p n) (unpack t).address (take n (drop (unpack p).address x.image))).after
      (copied (Some o') t p n heap)
  unfolding copied
  copied-through t p o o' n e f v =
      by_bool (inside o' p n)
      (λ u. rw (u, e, read_through p o' n f u, and-true (inside o t n)) (wrote_through t o n (bytes_at o' p n) e (length_bytes p o' n f u) v))
      (λ u. rw (u, and-false (inside o t n)) i)

  pub copy_step : (t p n : ℕ) (o o' : Object) → owner_of heap t ≡ Some o → owner_of heap p ≡ Some o'
      → Invariant s L (copy t p n x).after (hear heap (copies t p n) (copy t p n x).answer)
  unfolding hear
  copy_step t p n o o' e f =
      by_bool (ltb 0 n)
      (λ l.
      rw (copy-through s x (opens i) t p n (unpack p).address (inside o t n) (inside o' p n) l (accesses i t o n e) (accesses i p o' n f), l, f)
      (copied-through t p o o' n e f 0))
      (λ l. rw (copy_refuses_empty s x (opens i) t p n l, l) i)

  -- Text copy.

  -- a pointer's text lies inside its object exactly where its first byte does
  inside_text : (p : ℕ) (o : Object) (n : ℕ) → owner_of heap p ≡ Some o → text_in o p ≡ Some n → inside o p (n + 1) ≡ inside o p 1
  inside_text p o n e t =
      let short : n < length (drop (offset o p) o.bytes) = text_bound (drop (offset o p) o.bytes) n t in
      by_bool (inside o p 1)
      (λ u.
      let w : Span p o 1 = span p o 1 e u in
      let (low, high) = inside_range o p 1 u in
      let long : length (drop (offset o p) o.bytes) ≡ o.size - offset o p =
      length-drop (offset o p) o.bytes ∙ ap (λ (k : ℕ). k - offset o p) (i.laid.fine (header_of o) o w.owner.found).counted
      in
      in_range_lem o p (n + 1) low (omega (arith, low, high)) ∙ sym u)
      (λ u.
      refuted (inside o p (n + 1))
      (λ v. let (low, high) = inside_range o p (n + 1) v in true_false (in_range_lem o p 1 low (omega (arith, high))) u)
      ∙ sym u)

  -- from its address to the end of the body, the image has the object's bytes
  body_through : (p : ℕ) (o : Object) → owner_of heap p ≡ Some o → inside o p 1 ≡ true
      → take (start o + o.size - (unpack p).address) (drop (unpack p).address x.image) ≡ drop (offset o p) o.bytes
  body_through p o e t =
      let n : ℕ = start o + o.size - (unpack p).address in
      let (low, high) = inside_range o p 1 t in
      let counted : length o.bytes ≡ o.size = (i.laid.fine (header_of o) o (span p o 1 e t).owner.found).counted in
      read_through p o n e (in_range_lem o p n low (omega (arith, low, high)))
      ∙ take_all n (drop (offset o p) o.bytes) (simp length-drop (omega (arith, low, counted)))

  -- the text through a pointer is that in its object's bytes
  text_through : (p : ℕ) (o : Object) → owner_of heap p ≡ Some o → text_at s (unpack p) x ≡ demand (inside o p 1) OutOfBounds (text_answer (text_in o p))
  unfolding inside
  text_through p o e =
      let q = known i.laid (header_of o) o (owned heap p o i.laid.distinct e).found in
      text_located s (unpack p) x (header_of o) (owner_leads i p o e)
      ∙ rw (q.size, ← q.begins)
      (by_bool (inside o p 1)
      (λ t. rw t (ap (λ (l : List ℕ). text_answer (text_of l)) (body_through p o e t)))
      (λ t. rw t refl))

  module _ (t p : ℕ) (o o' : Object) (e : owner_of heap t ≡ Some o) (f : owner_of heap p ≡ Some o') where
    -- what the search of the source gives
    searched : (w : Option ℕ) → text_in o' p ≡ w → text_at s (unpack p) x ≡ demand (inside o' p 1) OutOfBounds (text_answer w)
    searched w g = grind (arith, text_through)

    -- a text that ends is copied where its length plus one bytes of both lie inside their objects
    pub copies_text_lem : (n : ℕ) → text_in o' p ≡ Some n
        → copy_text t p x ≡ through x (n + 1) (inside o t (n + 1) && inside o' p (n + 1)) (unpack t).address (take (n + 1) (drop (unpack p).address x.image))
    copies_text_lem n g =
        by_bool (inside o' p 1)
        (λ u.
        rw (inside_text p o' n f g, u, and-true (inside o t (n + 1)))
        (copy_text-through s x (opens i) t p n (inside o t (n + 1)) ((rw u at (searched (Some n) g)) ∙ sym (text_ended n)) (accesses i t o (n + 1) e)))
        (λ u.
        rw (inside_text p o' n f g, u, and-false (inside o t (n + 1)))
        (copy_text_refuses s x (opens i) t p OutOfBounds (rw u at (searched (Some n) g))))

    -- one that does not is refused, by 13 or 20
    pub copies_no_text : text_in o' p ≡ None → (r : Refusal) × (copy_text t p x ≡ refuse r x)
    copies_no_text g =
        by_bool (inside o' p 1)
        (λ u. (Unterminated, copy_text_refuses s x (opens i) t p Unterminated ((rw u at (searched None g)) ∙ sym text_endless)))
        (λ u. (OutOfBounds, copy_text_refuses s x (opens i) t p OutOfBounds (rw u at (searched None g))))

    pub copy_text-step : Invariant s L (copy_text t p x).after (hear heap (copies_text t p) (copy_text t p x).answer)
    unfolding hear text_copied copied_text
    copy_text-step = rw f (go (text_in o' p) refl)
      where
        go : (w : Option ℕ) → text_in o' p ≡ w → Invariant s L (copy_text t p x).after (copied_text w (Some o') t p heap)
        go (Some n) g = rw (copies_text_lem n g) (copied-through t p o o' (n + 1) e f (n + 1))
        go None g = rw (copies_no_text g).1 i
