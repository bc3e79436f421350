-- Every workload's calls meet demand 3's premise; free and store are accepted, and allocate is declined only with 8.
-- The induction is on the draws left. It carries an admitted list that leads to the workload's image and table with a heap, so that demand 3 holds of them, and that
-- the pointers held are the heap's answers. In order: one draw; all draws; the shape that they keep. Assumes nothing.
use Rattle.std.proofs.Common.{◌≡◌, ℕ, zero, suc, ◌^◌, ◌<◌, ◌≤◌, true, ltb, List, [], ◌∷◌, length, get_or, refl, Err, Ok, sym, ap, ◌∙◌, subst, arith, length-append, length-drop, length-take, lt-ltb}
use Rattle.block.specs.Layout.{slot_exponent}
use Rattle.block.specs.laws.Booleans.{by_bool, and_both}
use Rattle.store.specs.State.{State, IsAccepted, returned}
use Rattle.store.specs.Calls.{set_up, allocate, free, store}
use Rattle.store.specs.Claims.{KeepsShape}
use Rattle.store.specs.laws.Allocate.{allocate-word}
use Rattle.store.specs.laws.Shapes.{shape_then}
use Rattle.store.specs.Step as step
use Rattle.store.specs.State.{Answer}
use Rattle.store.proofs.Claims.{shapes_kept}
use Rattle.history.specs.Heap.{Heap, hear}
use Rattle.history.specs.History.{admitted, Configuration, next, after, all_admitted, begun, Holds}
use Rattle.history.specs.Release.{answers}
use Rattle.history.specs.laws.Lists.{after_none, after_first, admitted_none, admitted-first, Reached, reached_itself, reached_next}
use Rattle.history.specs.laws.Plain.{AllPlain, length-answers, Owner, owner_at, owner_small, owner_inside, Held, held_none, allocate_held, declined_held, store_held}
use Rattle.history.proofs.PlainFrees.{free_held}
use Rattle.history.proofs.Theorem.{reached_holds}
use Rattle.call_log.specs.Run as run
use Rattle.call_log.specs.Run.{asked, made}
use Rattle.call_log.specs.Written.{recordable, all_recordable}
use Rattle.call_log.specs.laws.Run as laws
use Rattle.call_log.specs.laws.Written.{allocate-recordable, free-recordable, store-recordable, all_recordable_none, all_recordable-first}
use Rattle.call_log.specs.declared.record.Call.{Call}
use Rattle.workload.specs.Generator.{advanced, drawn}
use Rattle.workload.specs.Choice.{call_of, remove_at, joined, pointers_after}
use Rattle.workload.specs.Traffic.{Progress, next_choice, next_call, has_space, recorded, draws_from, calls_from, started}
use Rattle.workload.specs.Claims.{AnswersWell, AllWell, all_asked}
use Rattle.workload.specs.declared.choosing.Choice.{Choice}
use Rattle.workload.proofs.Choices.{Chosen, allocation, freeing, storing, chosen}
use Rattle.workload.proofs.Draws.{draws_none, draws_next, draws_full}
use Rattle.workload.proofs.Runs.{calls_none, calls-next, calls_full}

-- One draw.

-- image and table with the heap beside them
abbrev at : State → Heap → Configuration
at x heap = record { state = x; heap = heap }

-- what the call of a choice answers
abbrev answered : Choice → State → Answer
answered c x = (made (call_of c) x).answer

-- the heap after it
abbrev heap_after : Choice → State → Heap → Heap
heap_after c x heap = hear heap (asked (call_of c)) (answered c x)

-- What holds of a choice's call: a record can hold it, demand 3 admits it, it answers well, and the pointers after it are held.
record Made (x : State) (heap : Heap) (ps : List ℕ) (c : Choice) : Type 0 where
  is_recordable : recordable (call_of c) ≡ true
  is_admitted : admitted heap (asked (call_of c)) ≡ true
  well : AnswersWell (call_of c) (returned (answered c x))
  held : Held (heap_after c x heap) (pointers_after c (answered c x) ps)
  few : length ps ≤ 64 → length (pointers_after c (answered c x) ps) ≤ 64

-- one more pointer, where there is room
joined_few : (a : Answer) (ps : List ℕ) → length ps < 64 → length (joined a ps) ≤ 64
joined_few (Ok p) ps l = simp length-append (omega arith)
joined_few (Err r) ps l = omega arith

-- one less
removed_few : (i : ℕ) (ps : List ℕ) → i < length ps → length (remove_at i ps) ≤ length ps
unfolding remove_at
removed_few i ps l = simp (length-append, length-take, length-drop) (omega arith)

module _ {s : ℕ} (x : State) (heap : Heap) (k : Holds s (at x heap)) (plain : AllPlain heap) where
  -- an allocation's answer, where it has one, is the new object's pointer
  joined_held : (size : ℕ) → 0 < size → (a : Answer) → (allocate size 0 x).answer ≡ a → Held (hear heap (step.allocates size 0) a) (joined a (answers heap))
  joined_held size n (Ok p) e = allocate_held heap plain size 0 p n (allocate-word size 0 0 p x e)
  joined_held size n (Err r) e = declined_held heap plain size 0 r

  made_call : (c : Choice) → Chosen (answers heap) c → Made x heap (answers heap) c
  unfolding pointers_after remove_at
  made_call _ (allocation size n l room) =
      record {
        is_recordable = allocate-recordable size 0 l (omega arith);
        is_admitted = and_both _ _ (lt-ltb size (2 ^ 32) l) refl;
        well = k.answers size 0 0 l (omega arith) (omega arith);
        held = joined_held size n (allocate size 0 x).answer refl;
        few = λ _. joined_few (allocate size 0 x).answer (answers heap) room;
      }
  made_call _ (freeing i l) =
      let p : ℕ = get_or (answers heap) i 0 in
      let there : i < length heap = omega (arith, length-answers heap) in
      let o : Owner heap p = owner_at heap i plain there in
      record {
        is_recordable = free-recordable p (owner_small o);
        is_admitted = lt-ltb p (2 ^ 64) (owner_small o);
        well = (k.frees p (owner_small o)).1 (o.object, o.lives, o.answered);
        held = free_held heap plain i (free p x).answer there k.header_places;
        few = λ f. let r = removed_few i (answers heap) l in omega arith;
      }
  made_call _ (storing i byte l b) =
      let p : ℕ = get_or (answers heap) i 0 in
      let o : Owner heap p = owner_at heap i plain (omega (arith, length-answers heap)) in
      let fits : ltb byte (2 ^ 64) ≡ true = lt-ltb byte (2 ^ 64) (omega arith) in
      record {
        is_recordable = store-recordable p 1 byte (owner_small o) (omega arith) (omega arith);
        is_admitted = and_both _ _ o.is_known (and_both _ _ refl fits);
        well = (k.stores 1 byte refl b o.object p o.owns).1 (owner_inside o);
        held = store_held heap plain p 1 byte (store p 1 byte x).answer;
        few = λ f. f;
      }

-- All draws.

-- What holds of calls made in order from y on: records can hold them, demand 3 admits them, they answer well, and the pointers at their end are held.
pub record AllMade (cs : List Call) (y : Configuration) (ps : List ℕ) : Type 0 where
  pub are_recordable : all_recordable cs ≡ true
  pub are_admitted : all_admitted (all_asked cs) y ≡ true
  pub well : AllWell (run.answers cs y.state)
  pub live : answers (after (all_asked cs) y).heap ≡ ps
  pub few : length ps ≤ 64

none_made : (y : Configuration) (ps : List ℕ) → Held y.heap ps → length ps ≤ 64 → AllMade [] y ps
unfolding all_asked AllWell
none_made y ps h l =
    record {
      are_recordable = all_recordable_none;
      are_admitted = admitted_none y;
      well = subst AllWell (sym (laws.answers_none y.state)) tt;
      live = ap (λ (z : Configuration). answers z.heap) (after_none y) ∙ h.same;
      few = l;
    }

first_made : (x : State) (heap : Heap) (ps qs : List ℕ) (c : Choice) (cs : List Call) → Made x heap ps c → AllMade cs (next (asked (call_of c)) (at x heap)) qs
    → AllMade (call_of c ∷ cs) (at x heap) qs
unfolding all_asked AllWell
first_made x heap ps qs c cs m rest =
    record {
      are_recordable = all_recordable-first (call_of c) cs m.is_recordable rest.are_recordable;
      are_admitted = admitted-first (asked (call_of c)) (all_asked cs) (at x heap) m.is_admitted rest.are_admitted;
      well = subst AllWell (sym (laws.answers-first (call_of c) cs x)) (m.well, rest.well);
      live = ap (λ (z : Configuration). answers z.heap) (after_first (asked (call_of c)) (all_asked cs) (at x heap)) ∙ rest.live;
      few = rest.few;
    }

module _ (s : ℕ) (x : State) (e : IsAccepted (set_up s x)) where
  -- the next draw's call
  next-made : (r : Progress) (heap : Heap) → Reached (begun s x) (at r.store heap) → Held heap r.pointers → Made r.store heap r.pointers (next_choice r)
  next-made r heap q h =
      subst (λ (ps : List ℕ). (c : Choice) → Chosen ps c → Made r.store heap ps c) h.same
      (made_call r.store heap (reached_holds s x e (at r.store heap) q) h.plain)
      (next_choice r) (chosen (drawn (advanced r.generator)) r.pointers)

  -- and those of all draws from there on
  draws_made : (n : ℕ) (r : Progress) (heap : Heap) → Reached (begun s x) (at r.store heap) → Held heap r.pointers → length r.pointers ≤ 64
      → AllMade (calls_from n r) (at r.store heap) (draws_from n r).at.pointers
  unfolding recorded
  draws_made zero r heap q h l = rw (calls_none r, draws_none r) (none_made (at r.store heap) r.pointers h l)
  draws_made (suc n) r heap q h l =
      let m = next-made r heap q h in
      by_bool (has_space r)
      (λ t. rw (calls-next n r t, draws_next n r t)
      (first_made r.store heap r.pointers (draws_from n (recorded r)).at.pointers (next_choice r) (calls_from n (recorded r)) m
      (draws_made n (recorded r) (heap_after (next_choice r) r.store heap) (reached_next (asked (next_call r)) q m.is_admitted) m.held (m.few l))))
      (λ t. rw (calls_full n r t, draws_full n r t) (none_made (at r.store heap) r.pointers h l))

  -- a workload begins with no pointers and the empty heap
  pub load-made : (g draws : ℕ) (log : List ℕ)
      → AllMade (calls_from draws (started g (set_up s x).after log)) (begun s x) (draws_from draws (started g (set_up s x).after log)).at.pointers
  load-made g draws log = draws_made draws (started g (set_up s x).after log) [] (reached_itself (begun s x)) held_none (omega arith)

  -- The shape of image and table is kept.
  draws_shaped : (n : ℕ) (r : Progress) (heap : Heap) → Reached (begun s x) (at r.store heap) → Held heap r.pointers → KeepsShape s x r.store
      → KeepsShape s x (draws_from n r).at.store
  unfolding recorded
  draws_shaped zero r heap q h k = rw (draws_none r) k
  draws_shaped (suc n) r heap q h k =
      let m = next-made r heap q h in
      let y : State = (made (next_call r) r.store).after in
      let exponent : slot_exponent r.store.image ≡ s = (reached_holds s x e (at r.store heap) q).slot_exponent_lem in
      let step_kept : KeepsShape s r.store y = subst (λ (t : ℕ). KeepsShape t r.store y) exponent (shapes_kept.calls (asked (next_call r)) r.store) in
      by_bool (has_space r)
      (λ t. rw (draws_next n r t)
      (draws_shaped n (recorded r) (heap_after (next_choice r) r.store heap) (reached_next (asked (next_call r)) q m.is_admitted) m.held
      (shape_then s x r.store y k step_kept)))
      (λ t. rw (draws_full n r t) k)

  pub load_shaped : (g draws : ℕ) (log : List ℕ) → KeepsShape s x (draws_from draws (started g (set_up s x).after log)).at.store
  load_shaped g draws log = draws_shaped draws (started g (set_up s x).after log) [] (reached_itself (begun s x)) held_none (shapes_kept.set_up_lem s x)
