-- Demand 3, and the further claims about its lists.
-- In order: the induction over the list; each field of `Holds` from the invariant; the claims. Not here: the steps of single calls (`Steps`). Assumes nothing.
use Rattle.store.specs.State.{usage_of}
use Rattle.std.proofs.Common.{Err, None, Ok, Option, Some, ℕ, ◌+◌, ◌^◌, ◌≤◌, ◌<◌, ◌≡◌, refl, Bool, true, false, cond, ◌&&◌, List, [], ◌∷◌, ◌↔◌, ◌⊎◌, length, take, drop, ltb, sym, ap, ◌∙◌, subst, arith, lt-ltb, ltb-true, leb-false, Ordering}
use Rattle.frame.specs.Pointers.{unpack}
use Rattle.block.specs.laws.Booleans.{and_left, and_right, and_both, true_false}
use Rattle.block.specs.Bytes.{decode, field}
use Rattle.block.specs.laws.Fields.{field_bytes_lem}
use Rattle.block.specs.Order.{compare_bytes}
use Rattle.block.specs.Layout.{stored_total, extent_at}
use Rattle.store.specs.State.{State, Outcome, IsAccepted, returned, value, comparison_number, usage_number, free_bytes}
use Rattle.store.specs.Claims.{NoLoad, NoAccess}
use Rattle.store.specs.Calls.{set_up, allocate_for, free, compare, copy_text, free_total, tally, located}
use Rattle.store.specs.laws.Refusals.{demand_iff, not-accepted}
use Rattle.store.specs.Step.{Call, allocates, frees, moves, loads, stores, fills, copies, copies_text, allocates_for, releases, step}
use Rattle.store.specs.laws.Total.{free_total-given}
use Rattle.store.specs.laws.Tally.{tally-counts, tally_balanced}
use Rattle.store.specs.laws.SetUp.{set_up-accepted}
use Rattle.store.specs.laws.Access.{through_iff}
use Rattle.store.specs.laws.Load.{load-through}
use Rattle.store.specs.laws.Store.{store-through}
use Rattle.store.specs.laws.Fill.{fill-through}
use Rattle.store.specs.laws.Copy.{copy-through}
use Rattle.store.specs.laws.Compare.{bytes_through, compare-through}
use Rattle.store.specs.laws.Empty.{empty_load, empty_access}
use Rattle.store.specs.declared.answer.Refusal.TheVariants.{OutOfBounds}
use Rattle.history.specs.Heap.{Object, Heap, holds, owner_of, inside, text_in, hear, HearsNoOther}
use Rattle.history.specs.History.{known, admitted, Configuration, next, after, all_admitted, begun, In, header_of, FreeRun, EntriesApart, PointersApart, PointersLead, FreesExactly, LoadsExactly, StoresExactly, FillsExactly, BothInside, CopiesExactly, ComparesExactly, TextsExactly, LoadsBytes, ComparesBytes, TextsCounted, EachAllocate, Holds, Demand3}
use Rattle.history.specs.Release.{ReleasesSingly}
use Rattle.history.specs.laws.Lists.{Reached}
use Rattle.history.specs.Empty.{NoEmptyLoads, NoEmptyAccess}
use Rattle.history.specs.Commuting.{OrdersAgree, EitherOrder}
use Rattle.history.specs.Tidiness.{MeetsNoUnsound, NeverUnsound, Balanced, StaysBalanced, RightTotal, StaysTotalled, Tidy, StaysTidy}
use Rattle.history.proofs.Gaps.{Block, extent, Layout, blocks, bodies, gaps, overheads, counts, block_at, Clear}
use Rattle.history.proofs.Image.{counted_as, no_neighbours, free_zero, tail_zero}
use Rattle.history.proofs.Heap.{find, find_in, find-place, in_find, places_apart, two_places, known_owner}
use Rattle.history.proofs.Table.{entries_differ}
use Rattle.history.proofs.Invariant.{Invariant, object_of, ranged, exponent_is, total_is, opens, Leads, leads, accesses, measures, begins_with}
use Rattle.history.proofs.Invariant as invariant
use Rattle.history.proofs.Steps.{Allocated, no_room, given, allocated, allocate-step, Freeing, taken, declined, freeing, free_step, move_step, load_step, read_through, store_step, fill_step, copy_step, copies_text_lem, copies_no_text, copy_text-step}
use Rattle.history.proofs.Releases.{release_counts, release_step, freed_singly}
use Rattle.history.proofs.Orders.{frees_commute, releases_commute}

-- The list.

-- each admitted call keeps the invariant
pub steps : {s L : ℕ} {x : State} {heap : Heap} (c : Call) → Invariant s L x heap → admitted heap c ≡ true
    → Invariant s L (step c x).after (hear heap c (step c x).answer)
unfolding hear
steps (allocates size type) i a = allocate-step i size type 0 (ltb-true _ _ (and_right (ltb size (2 ^ 32)) _ a)) (omega arith)
steps (frees p) i a = free_step i p (ltb-true _ _ a)
steps (moves p d) i a = move_step i p d
steps (loads p width) i a = load_step i p width
steps {heap = heap} (stores p width v) i a =
    let o = known_owner heap p (and_left _ (ltb width (2 ^ 64) && ltb v (2 ^ 64)) a) in
    store_step i p width v o.0 o.1
steps {heap = heap} (fills p n byte) i a =
    let o = known_owner heap p (and_left _ (ltb n (2 ^ 32) && ltb byte 256) a) in
    fill_step i p n byte o.0 o.1
steps {heap = heap} (copies t p n) i a =
    let o = known_owner heap t (and_left _ (known heap p && ltb n (2 ^ 32)) a) in
    let o' = known_owner heap p (and_left _ (ltb n (2 ^ 32)) (and_right (known heap t) _ a)) in
    copy_step i t p n o.0 o'.0 o.1 o'.1
steps {heap = heap} (copies_text t p) i a =
    let o = known_owner heap t (and_left _ (known heap p) a) in
    let o' = known_owner heap p (and_right (known heap t) _ a) in
    copy_text-step i t p o.0 o'.0 o.1 o'.1
steps (allocates_for size type cue) i a =
    let fits = and_right (ltb size (2 ^ 32)) _ a in
    allocate-step i size type cue (ltb-true _ _ (and_left _ (ltb cue (2 ^ 32)) fits)) (ltb-true _ _ (and_right (ltb type (2 ^ 16)) _ fits))
steps (releases cue) i a = release_step i cue

-- and so does an admitted list
pub keeps : {s L : ℕ} (calls : List Call) (x : Configuration) → Invariant s L x.state x.heap → all_admitted calls x ≡ true
    → Invariant s L (after calls x).state (after calls x).heap
unfolding after all_admitted
keeps [] x i a = i
keeps (c ∷ cs) x i a = keeps cs (next c x) (steps c i (and_left _ (all_admitted cs (next c x)) a)) (and_right (admitted x.heap c) _ a)

-- set-up establishes it
pub begins : (s : ℕ) (x : State) → IsAccepted (set_up s x) → Invariant s (length x.image) (set_up s x).after []
begins s x e = let (t, q) = set_up-accepted s x e in rw q (begins_with s x t)

-- so it holds after every admitted list
reaches : (s : ℕ) (x : State) → IsAccepted (set_up s x) → (calls : List Call) → all_admitted calls (begun s x) ≡ true
    → Invariant s (length x.image) (after calls (begun s x)).state (after calls (begun s x)).heap
reaches s x e calls = keeps calls (begun s x) (begins s x e)

-- What the invariant says.

module _ {s L : ℕ} (x : Configuration) (i : Invariant s L x.state x.heap) where
  at_place : (o : Object) → In o x.heap → find x.heap (header_of o) ≡ Some o
  at_place o m = in_find x.heap o i.laid.distinct m

  about : (o : Object) (m : In o x.heap) → invariant.Known s L x.state.image x.heap i.laid (header_of o) o
  about o m = invariant.known i.laid (header_of o) o (at_place o m)

  pointer_leads : (o : Object) (p : ℕ) → find x.heap (header_of o) ≡ Some o → holds o p ≡ true → Leads i (header_of o) p
  pointer_leads o p e t = leads i (header_of o) o p e ((i.laid.fine (header_of o) o e).good p t)

  two_entries : (o o' : Object) → find x.heap (header_of o) ≡ Some o → find x.heap (header_of o') ≡ Some o' → (header_of o ≡ header_of o' → ⊥) → EntriesApart s o o'
  two_entries o o' e f n l m q =
      entries_differ s L x.heap (ranged i.laid) (header_of o) (header_of o') o o' e f n (leb-false _ _ l) (leb-false _ _ m) q

  two_owners : (o o' : Object) → find x.heap (header_of o) ≡ Some o → find x.heap (header_of o') ≡ Some o' → (header_of o ≡ header_of o' → ⊥) → PointersApart o o'
  two_owners o o' e f n p t u =
      let a : located s (unpack p) x.state ≡ Ok (header_of o) = (pointer_leads o p e t).found in
      let b : located s (unpack p) x.state ≡ Ok (header_of o') = (pointer_leads o' p f u).found in
      n cc

  leads_to : PointersLead s x
  leads_to o m p t =
      let l : Leads i (header_of o) p = pointer_leads o p (at_place o m) t in
      (l.tag, l.back, l.place, sym (about o m).begins, (about o m).size)

  free_iff : FreesExactly x
  free_iff p fits = go (freeing i p fits)
    where
      go : Freeing s L x.state x.heap p → IsAccepted (free p x.state) ↔ ((o : Object) × In o x.heap × (o.answer ≡ p))
      go (taken o m a q j) = ((λ e. (o, m, a)), λ w. q)
      go (declined r q t n) = (
        (λ (e : IsAccepted (free p x.state)). absurd (not-accepted r (sym q) e)),
        λ (w : (o : Object) × In o x.heap × (o.answer ≡ p)). absurd (n w.0 w.1 w.2),
      )

  load_iff : LoadsExactly x
  load_iff width g o p e =
      rw (load-through s x.state (opens i) p width (unpack p).address (inside o p width) g (accesses i p o width e))
      (demand_iff (inside o p width) OutOfBounds (field x.state.image (unpack p).address width))

  load_value : LoadsBytes x
  load_value o p e width g a =
      let t : inside o p width ≡ true = (load_iff width g o p e).0 a in
      rw (load-through s x.state (opens i) p width (unpack p).address (inside o p width) g (accesses i p o width e), t)
      (field_bytes_lem x.state.image (unpack p).address width ∙ ap decode (read_through i p o width e t))

  store_iff : StoresExactly x
  store_iff width v g l o p e =
      rw (store-through s x.state (opens i) p width v (unpack p).address (inside o p width) g (lt-ltb _ _ l) (accesses i p o width e))
      (through_iff x.state 0 (inside o p width) (unpack p).address _)

  fill_iff : FillsExactly x
  fill_iff n byte l u b o p e =
      rw (fill-through s x.state (opens i) p n byte (unpack p).address (inside o p n) (lt-ltb 0 n l) (accesses i p o n e))
      (through_iff x.state 0 (inside o p n) (unpack p).address _)

  -- two tests in one, apart
  both_iff : {P : Type 0} (a b : Bool) → P ↔ (a && b ≡ true) → P ↔ ((a ≡ true) × (b ≡ true))
  both_iff a b w = ((λ e. (and_left a b (w.0 e), and_right a b (w.0 e))), λ e. w.1 (and_both a b e.0 e.1))

  copy_iff : CopiesExactly x
  copy_iff o o' t p e f n l u =
      both_iff (inside o t n) (inside o' p n)
      (rw (copy-through s x.state (opens i) t p n (unpack p).address (inside o t n) (inside o' p n) (lt-ltb 0 n l) (accesses i t o n e) (accesses i p o' n f))
      (through_iff x.state 0 (inside o t n && inside o' p n) (unpack t).address _))

  -- two pointers' bytes, compared where both lie inside their objects
  compares_both : (o o' : Object) (p q : ℕ) → owner_of x.heap p ≡ Some o → owner_of x.heap q ≡ Some o' → (n : ℕ) → 0 < n
      → compare p q n x.state
      ≡ cond (inside o p n && inside o' q n) (Ok (compare_bytes (bytes_through x.state n p) (bytes_through x.state n q)))
      (Err OutOfBounds)
  compares_both o o' p q e f n l =
      compare-through s x.state (opens i) p q n (inside o p n) (inside o' q n) (lt-ltb 0 n l) (accesses i p o n e) (accesses i q o' n f)

  compare_iff : ComparesExactly x
  compare_iff o o' p q e f n l u = both_iff (inside o p n) (inside o' q n) (rw (compares_both o o' p q e f n l) (decided (inside o p n && inside o' q n) _))
    where
      decided : (b : Bool) (c : Ordering) → (comparison_number (cond b (Ok c) (Err OutOfBounds)) ≡ 0) ↔ (b ≡ true)
      decided true c = ((λ e. refl), λ e. refl)
      decided false c = ((λ e. absurd (omega arith)), λ (e : false ≡ true). absurd (true_false e refl))

  compare-value : ComparesBytes x
  compare-value o o' p q e f n l u a =
      let (t, v) = (compare_iff o o' p q e f n l u).0 a in
      rw (compares_both o o' p q e f n l, t, v, read_through i p o n e t, read_through i q o' n f v) refl

  text_iff : TextsExactly x
  text_iff o o' t p e f = go (text_in o' p) refl
    where
      go : (w : Option ℕ) → text_in o' p ≡ w → IsAccepted (copy_text t p x.state) ↔ ((n : ℕ) × (text_in o' p ≡ Some n) × BothInside o o' t p (n + 1))
      go (Some n) g =
          let w : IsAccepted (copy_text t p x.state) ↔ BothInside o o' t p (n + 1) =
          both_iff (inside o t (n + 1)) (inside o' p (n + 1))
          (rw (copies_text_lem i t p o o' e f n g) (through_iff x.state (n + 1) (inside o t (n + 1) && inside o' p (n + 1)) (unpack t).address _))
          in (
            (λ a. (n, g, w.0 a)),
            λ (b : (m : ℕ) × (text_in o' p ≡ Some m) × BothInside o o' t p (m + 1)). let same : b.0 ≡ n = cc (b.1, g) in w.1 (rw same at b.2),
          )
      go None g =
          let (r, q) = copies_no_text i t p o o' e f g in (
            (λ (a : IsAccepted (copy_text t p x.state)). absurd (not-accepted r (sym q) a)),
            λ (b : (m : ℕ) × (text_in o' p ≡ Some m) × BothInside o o' t p (m + 1)). cc (b.1, g),
          )

  text_value : TextsCounted x
  text_value o o' t p e f n g a =
      let q = copies_text_lem i t p o o' e f n g in
      let w : inside o t (n + 1) && inside o' p (n + 1) ≡ true =
      (through_iff x.state (n + 1) (inside o t (n + 1) && inside o' p (n + 1)) (unpack t).address (take (n + 1) (drop (unpack p).address x.state.image))).0
      (rw q at a)
      in
      rw (q, w) refl

  -- runs outside every live extent are those outside every live block

  run_clear : (a n : ℕ) → FreeRun x a n → Clear x.state.image i.laid.layout a n
  run_clear a n r =
      record {
        low = r.behind_superblock;
        high = r.in_image;
        apart =
            λ h b e.
            let q = object_of i.laid h b e in
            let o : Object = q.0 in
            let m : In o x.heap = find_in x.heap h o q.1 in
            let k : header_of o ≡ h = find-place x.heap h o q.1 in
            let c = about o m in
            let same : extent_at x.state.image (header_of o) ≡ extent b = c.extent_is ∙ ap extent (block_same c.there (ap (block_at i.laid.layout) k ∙ e)) in
            subst (λ (z : ℕ). (z + extent b ≤ a) ⊎ (a + n ≤ z)) k
            (subst (λ (z : ℕ). (header_of o + z ≤ a) ⊎ (a + n ≤ header_of o)) same (r.outside o m));
      }
    where
      block_same : {r : Option Block} {b c : Block} → r ≡ Some b → r ≡ Some c → b ≡ c
      block_same e f = cc

  clear_run : (a n : ℕ) → Clear x.state.image i.laid.layout a n → FreeRun x a n
  clear_run a n c =
      record {
        behind_superblock = c.low;
        in_image = c.high;
        outside =
            λ o m.
            let q = about o m in
            subst (λ (z : ℕ). (header_of o + z ≤ a) ⊎ (a + n ≤ header_of o)) (sym q.extent_is) (c.apart (header_of o) q.block q.there);
      }

  -- what allocate returns
  data Returns (size type cue : ℕ) : Type 0 where
    eight : returned (allocate_for size type cue x.state).answer ≡ 8 → ((a : ℕ) → FreeRun x a (16 + size) → ⊥) → Returns size type cue
    nought : returned (allocate_for size type cue x.state).answer ≡ 0 → (a : ℕ) → FreeRun x a (16 + size) → Returns size type cue

  allocate_returns : (size type cue : ℕ) → type < 2 ^ 16 → cue < 2 ^ 32 → Returns size type cue
  allocate_returns size type cue fits cue_fits = go (allocated i size type cue fits cue_fits)
    where
      number : (r : Outcome) → allocate_for size type cue x.state ≡ r → returned (allocate_for size type cue x.state).answer ≡ returned r.answer
      number r e = ap (λ (z : Outcome). returned z.answer) e

      go : Allocated s L x.state x.heap i size type cue → Returns size type cue
      go (no_room f n) = eight (number _ f) (λ a r. n a (run_clear a (16 + size) r))
      go (given h c f j) = nought (number _ f) h (clear_run h (16 + size) c)

  two_answers : EachAllocate x.state (λ size r. (r ≡ 0) ⊎ (r ≡ 8))
  two_answers size type cue u fits cue_fits = grind (arith, allocate_returns)

  -- no other number
  never : (n : ℕ) → (n ≡ 0 → ⊥) → (n ≡ 8 → ⊥) → EachAllocate x.state (λ size r. r ≡ n → ⊥)
  never n a b size type cue l fits cue_fits e = grind (arith, allocate_returns)

  has_room : EachAllocate x.state (λ size r. (r ≡ 0) ↔ ((a : ℕ) × FreeRun x a (16 + size)))
  has_room size type cue u fits cue_fits = go (allocate_returns size type cue fits cue_fits)
    where
      go : Returns size type cue → IsAccepted (allocate_for size type cue x.state) ↔ ((a : ℕ) × FreeRun x a (16 + size))
      go (eight f n) =
          ((λ (e : IsAccepted (allocate_for size type cue x.state)). absurd (omega arith)), λ (w : (a : ℕ) × FreeRun x a (16 + size)). absurd (n w.0 w.1))
      go (nought f a r) = ((λ e. (a, r)), λ w. f)

  has_none : EachAllocate x.state (λ size r. (r ≡ 8) ↔ ((a : ℕ) → FreeRun x a (16 + size) → ⊥))
  has_none size type cue u fits cue_fits = go (allocate_returns size type cue fits cue_fits)
    where
      go : Returns size type cue → (returned (allocate_for size type cue x.state).answer ≡ 8) ↔ ((a : ℕ) → FreeRun x a (16 + size) → ⊥)
      go (eight f n) = ((λ e. n), λ w. f)
      go (nought f a r) =
          ((λ (e : returned (allocate_for size type cue x.state).answer ≡ 8). absurd (omega arith)), λ (w : (b : ℕ) → FreeRun x b (16 + size) → ⊥). absurd (w a r))

  pub holds-all : Holds s x
  holds-all =
      record {
        slot_exponent_lem = exponent_is i.laid;
        byte_counts = λ o m. (i.laid.fine (header_of o) o (at_place o m)).counted;
        header_places = places_apart x.heap i.laid.distinct;
        entries = two_places x.heap _ i.laid.distinct two_entries;
        pointers = two_places x.heap _ i.laid.distinct two_owners;
        leads = leads_to;
        cues = λ o m. (about o m).cue_is;
        frees = free_iff;
        releases = λ cue fits. release_counts i cue;
        loads = load_iff;
        stores = store_iff;
        fills = fill_iff;
        copies = copy_iff;
        compares = compare_iff;
        texts = text_iff;
        distances = λ o p e. measures i p o e;
        reads = load_value;
        orders = compare-value;
        text_counts = text_value;
        answers = two_answers;
        no_conflict = never 9 (λ z. omega arith) (λ z. omega arith);
        room = has_room;
        no_space = has_none;
      }

  -- tally gives the layout's counts
  tallied : let l : Layout = i.laid.layout in tally x.state ≡ usage_of (blocks l) (bodies l) (gaps l) (overheads l)
  tallied = sym (tally-counts x.state s (opens i) (counts i.laid.layout) (counted_as x.state.image i.laid.layout i.laid.placed))

  -- so that it is accepted
  tally-accepted : usage_number (tally x.state) ≡ 0
  tally-accepted = ap usage_number tallied

  pub meets_no_unsound : MeetsNoUnsound x.state
  meets_no_unsound =
      record {
        allocates = never 7 (λ z. omega arith) (λ z. omega arith);
        tallies = λ e. omega (arith, tally-accepted);
      }

  -- and balanced
  pub balanced : Balanced x.state
  balanced = record { tallies = tally-accepted; sum = tally_balanced x.state tally-accepted }

  -- the free total is its third number, and 22 comes from no call
  pub right_total : RightTotal x.state
  right_total =
      record {
        given = ap returned (sym total-given);
        tallies = tally-accepted;
        sum = ap value (sym total-given) ∙ total_is i.laid ∙ sym (ap free_bytes tallied);
        allocates = never 22 (λ z. omega arith) (λ z. omega arith);
        frees = λ p fits e. not_wrong p e (freeing i p fits);
        releases = λ cue fits e. omega (arith, (release_counts i cue).0);
      }
    where
      total-given : Ok (stored_total x.state.image) ≡ free_total x.state
      total-given = free_total-given x.state s (opens i)

      not_wrong : (p : ℕ) → returned (free p x.state).answer ≡ 22 → Freeing s L x.state x.heap p → ⊥
      not_wrong p e (taken o m a q j) = omega (arith, q)
      not_wrong p e (declined r q t n) = t (sym (ap (λ (z : Outcome). returned z.answer) q) ∙ e)

  -- nothing is read or written through a pointer of an object of no bytes
  module _ (o : Object) (m : In o x.heap) (z : o.size ≡ 0) (p : ℕ) (t : holds o p ≡ true) where
    abbrev led : located s (unpack p) x.state ≡ Ok (header_of o)
    led = (pointer_leads o p (at_place o m) t).found

    pub no_load : NoLoad p x.state
    no_load = empty_load s p x.state (header_of o) (opens i) led ((about o m).size ∙ z)

    pub no_access : NoAccess p x.state
    no_access = empty_access s p x.state (header_of o) (opens i) led ((about o m).size ∙ z)

  -- two frees, or two releases, in either order
  pub orders_agree : OrdersAgree x
  orders_agree =
      record { frees = two_places x.heap _ i.laid.distinct (frees_commute i); releases = λ c d fits fits' n. releases_commute i c d n }

  pub tidy : Tidy x.state.image
  tidy =
      record {
        apart = no_neighbours x.state.image i.laid.layout i.laid.placed;
        free_zero = free_zero x.state.image i.laid.layout i.laid.placed;
        tail_zero = tail_zero x.state.image i.laid.layout i.laid.placed;
      }

-- The claims.

pub demand3 : Demand3
unfolding Demand3
demand3 s x e calls a = holds-all _ (reaches s x e calls a)

-- the same, for what an admitted list leads to
pub reached_holds : (s : ℕ) (x : State) → IsAccepted (set_up s x) → (y : Configuration) → Reached (begun s x) y → Holds s y
unfolding Demand3
reached_holds s x e y r = subst (Holds s) r.leave (demand3 s x e r.calls r.are_admitted)

pub never_unsound : NeverUnsound
unfolding NeverUnsound
never_unsound s x e calls a = meets_no_unsound _ (reaches s x e calls a)

pub stays_balanced : StaysBalanced
unfolding StaysBalanced
stays_balanced s x e calls a = balanced _ (reaches s x e calls a)

pub stays_totalled : StaysTotalled
unfolding StaysTotalled
stays_totalled s x e calls a = right_total _ (reaches s x e calls a)

pub stays_tidy : StaysTidy
unfolding StaysTidy
stays_tidy s x e calls a = tidy _ (reaches s x e calls a)

pub no_empty_loads : NoEmptyLoads
unfolding NoEmptyLoads
no_empty_loads s x e calls a = no_load _ (reaches s x e calls a)

pub no_empty_access : NoEmptyAccess
unfolding NoEmptyAccess
no_empty_access s x e calls a = no_access _ (reaches s x e calls a)

pub releases_singly : ReleasesSingly
unfolding ReleasesSingly
releases_singly s x e calls a cue fits = freed_singly _ (reaches s x e calls a) cue

pub either_order : EitherOrder
unfolding EitherOrder
either_order s x e calls a = orders_agree _ (reaches s x e calls a)

-- the abstract heap hears of an answer only after allocate and move
pub hears_no_other : HearsNoOther
unfolding HearsNoOther hear
hears_no_other heap (allocates size type) a a' e = cc
hears_no_other heap (frees p) a a' e = refl
hears_no_other heap (moves p d) a a' e = cc
hears_no_other heap (loads p width) a a' e = refl
hears_no_other heap (stores p width v) a a' e = refl
hears_no_other heap (fills p n byte) a a' e = refl
hears_no_other heap (copies t p n) a a' e = refl
hears_no_other heap (copies_text t p) a a' e = refl
hears_no_other heap (allocates_for size type cue) a a' e = cc
hears_no_other heap (releases cue) a a' e = refl
