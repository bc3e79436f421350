-- What holds of single calls on every image and table.
-- In order: shapes that are kept; how each call ends; the claims. Assumes nothing.
use Rattle.store.specs.State.{measured_as}
use Rattle.std.specs.Prelude.{Err, Ok, Result, ℕ, ◌+◌, ◌^◌, ◌≤◌, ◌<◌, ◌≡◌, refl, List, [], ◌∷◌, ◌↔◌, ℤ, pos, ◌+ℤ◌, ◌-ℤ◌, length, take, drop, replicate}
use Rattle.std.proofs.Common.{sym, ap, ap₂, ◌∙◌, subst, arith, length-append, length-drop, drop_at, length-take-le, eq-eqb}
use Rattle.std.proofs.lemmas.List.{length-replicate}
use Rattle.frame.specs.Pointers.{unpack, pack}
use Rattle.frame.specs.Tags.{pointer_to, used_entries}
use Rattle.frame.specs.declared.parts.Pointer.{Pointer}
use Rattle.frame.specs.laws.Wrappers.{object_entry_used}
use Rattle.frame.proofs.Objects.{own_pointer}
use Rattle.block.specs.Bytes.{encode, put}
use Rattle.block.specs.laws.Fields.{length-encode}
use Rattle.block.specs.laws.Writes.{length-put, field_put}
use Rattle.block.specs.Layout.{slot_exponent, header_at, size_at, extent_at, fields}
use Rattle.block.specs.laws.Soundness.{sound_low, sound-end, sound_live_at}
use Rattle.block.specs.declared.header.Header.{Header}
use Rattle.store.specs.State.{State, state, Outcome, IsAccepted, returned, value, comparison_number, comparison_value, distances_number, start_distance, end_distance, usage_number, live_objects, live_bytes, free_bytes, overhead_bytes}
use Rattle.store.specs.Calls.{opening, set_up_checks, set_up, fresh, cleared, taken_extent, allocate_checks, noted, allotted, allocate_for, free_release, free, move, move_answer, load, load_answer, store_checks, store, fill_checks, fill, copy_checks, copy, compare, copy_text_checks, copy_text, release_checks, pointers_to, cue_pointers, free_each, release_cue, free_total, tally, from_start, to_end, distances, has_type}
use Rattle.store.specs.laws.Shapes.{shape_itself, shape_then}
use Rattle.store.specs.laws.Refusals.{not-accepted}
use Rattle.store.specs.laws.SetUp.{Settable, settable_parts, set_up_declined, set_up_done, length-fresh}
use Rattle.store.specs.laws.Opening.{Open, opening_kept}
use Rattle.store.specs.laws.TagReading.{Stands, Located, located_object, located_leads, located-at, FoundAt, read_found, read-refused}
use Rattle.store.specs.laws.Access.{accessed_again}
use Rattle.store.specs.laws.Distances.{distances-sum, start_is, end_is, found_body, found_base, distances-given, distances_unread}
use Rattle.store.specs.laws.Allocate.{Allocates, allocate_parts, allocate_declined, allocate_done, CarvedHeader, carved-header, length-allotted, allotted_exponent, allotted-header}
use Rattle.store.specs.laws.Free.{Frees, free_parts, free_declined, free_done, length-given_back, given_back_front}
use Rattle.store.specs.laws.Release.{free_each_none, free_each_one, cue_pointers_lem, length_pointers, release_parts, release_declined, release_done}
use Rattle.store.specs.laws.Store.{Stores, store_parts, store_declined, store_done}
use Rattle.store.specs.laws.Fill.{fill_parts, fill_declined, fill_done}
use Rattle.store.specs.laws.Copy.{Copies, copy_parts, copy_declined, copy_done}
use Rattle.store.specs.laws.Compare.{swapped_order, transitive_order}
use Rattle.store.specs.laws.CopyText.{CopiesText, copy_text_parts, copy_text_declined, copy_text_done}
use Rattle.store.specs.Step.{Call, allocates, frees, moves, loads, stores, fills, copies, copies_text, allocates_for, releases, step}
use Rattle.store.specs.Claims.{RefusalsKeep, KeepsShape, ShapesKept, PointsBack, LeadsBack, ReadsBack, CountsAll, ComparesInOrder, EachFreed, ReleasesAll, ReadAs, Measures, EmptyBodies}
use Rattle.store.specs.laws.Load.{load_given, load_leaves}
use Rattle.store.specs.laws.Move.{move_leaves}
use Rattle.store.specs.laws.Empty.{empty_load, empty_access}
use Rattle.store.specs.laws.Entries.{length-noted, noted_beyond, noted_entry}
use Rattle.store.specs.laws.Tally.{tally_balanced}
use Rattle.store.specs.State.{Answer}
use Rattle.store.specs.declared.release.FreedBlock.{FreedBlock}
use Rattle.store.specs.declared.locate.Reading.{Reading}
use Rattle.store.proofs.Sweeping.{sweep_freed}
use Rattle.store.proofs.Gathering.{sweep_begins}
use Rattle.store.specs.declared.answer.Refusal.{Refusal}
use Rattle.store.specs.State.{Usage, Comparison, Measurement}

-- how a call ends: refused with nothing changed, or accepted with the shape kept
data Ended (s : ℕ) (x : State) (r : Outcome) : Type 0 where
  refused : r.after ≡ x → value r.answer ≡ 0 → Ended s x r
  accepted : IsAccepted r → KeepsShape s x r.after → Ended s x r

-- shapes that are kept

-- bytes are written in the image
written : (s : ℕ) (x : State) (at : ℕ) (bytes : List ℕ) → at + length bytes ≤ length x.image → KeepsShape s x (state (put x.image at bytes) x.table)
unfolding KeepsShape
written s x at bytes l = (length-put x.image at bytes l, refl, refl)

-- an entry is noted for an object in the image
entered : (s : ℕ) (x : State) (image : List ℕ) (h size entry : ℕ) → Open x s → h + 16 + size ≤ length x.image → length image ≡ length x.image
    → KeepsShape s x (state image (noted s h size entry x.table))
unfolding KeepsShape
entered s x image h size entry o l e = (
  e,
  length-noted s h size entry x.table,
  noted_beyond s h size entry x.table (used_entries s (length x.image)) (object_entry_used s (length x.image) h size l o.short),
)

-- all is set up
set_up_shape : (s : ℕ) (x : State) → Settable s x
    → KeepsShape s x (state (fresh s (length x.image)) (cleared s (length x.image) x.table))
unfolding KeepsShape
set_up_shape s x t =
    let used : ℕ = used_entries s (length x.image) in (
      length-fresh s (length x.image) (omega (arith, t.length_low)),
      simp (length-append, length-replicate, length-drop) (omega (arith, t.entries)),
      drop_at (replicate used 0) (drop used x.table) used (length-replicate used 0),
    )

-- what an end says of a refusal, and of every shape

-- a refused call changed nothing
ended_keeps : (s : ℕ) (x : State) (r : Outcome) → Ended s x r → (IsAccepted r → ⊥) → (r.after ≡ x) × (value r.answer ≡ 0)
ended_keeps s x r (refused e f) n = (e, f)
ended_keeps s x r (accepted a k) n = absurd (n a)

-- every call kept the shape
ended_shape : (s : ℕ) (x : State) (r : Outcome) → Ended s x r → KeepsShape s x r.after
ended_shape s x r (refused e f) = subst (KeepsShape s x) (sym e) (shape_itself s x)
ended_shape s x r (accepted a k) = k

-- how each call ends

-- set-up
ended_set_up : (s : ℕ) (x : State) → Ended s x (set_up s x)
ended_set_up s x = go (set_up_checks s x) refl
  where
    go : (a : Answer) → set_up_checks s x ≡ a → Ended s x (set_up s x)
    go (Err r) e = subst (Ended s x) (sym (set_up_declined s x r e)) (refused refl refl)
    go (Ok v) e = subst (Ended s x) (sym (set_up_done s x v e)) (accepted refl (set_up_shape s x (settable_parts s x v e)))

-- a call that only answers
ended_answer : (s : ℕ) (x : State) (a : Answer) → Ended s x (record { answer = a; after = x })
ended_answer s x (Ok v) = accepted refl (shape_itself s x)
ended_answer s x (Err r) = refused refl refl

module _ (x : State) where
  -- the slot exponent
  exponent : ℕ
  exponent = slot_exponent x.image

  -- allocate
  ended_allocate : (size type cue : ℕ) → Ended exponent x (allocate_for size type cue x)
  unfolding exponent
  ended_allocate size type cue = go (allocate_checks size x) refl
    where
      go : (a : Answer) → allocate_checks size x ≡ a → Ended exponent x (allocate_for size type cue x)
      go (Err r) e = subst (Ended exponent x) (allocate_declined size x type cue r e) (refused refl refl)
      go (Ok h) e =
          let a : Allocates size x h = allocate_parts size x h e in
          subst (Ended exponent x) (allocate_done size x type cue h exponent _ _ _ _ e refl refl refl refl refl)
          (accepted refl
          (entered exponent x _ h size h a.opens a.inside
          (length-allotted x.image h size type cue a.lowest.fits_in (sound-end x.image h a.lowest.is_sound))))

  -- free
  ended_free : (word : ℕ) → Ended exponent x (free word x)
  unfolding exponent
  ended_free word = go (free_release word x) refl
    where
      go : (a : Result FreedBlock Refusal) → free_release word x ≡ a → Ended exponent x (free word x)
      go (Err r) e = subst (Ended exponent x) (free_declined word x r e) (refused refl refl)
      go (Ok m) e =
          let h = m.header in
          let from = m.from in
          let to = m.to in
          let f : Frees word x h from to = free_parts word x h from to e in
          subst (Ended exponent x) (free_done word x h from to exponent _ _ e refl refl refl)
          (accepted refl
          (entered exponent x _ h (size_at x.image h) 0 f.opens f.inside (length-given_back x.image from to f.room f.high h)))

  -- move
  ended_move : (word : ℕ) (d : ℤ) → Ended exponent x (move word d x)
  ended_move word d = subst (Ended exponent x) (sym (move_leaves word d x)) (ended_answer exponent x (move_answer word d x))

  -- load
  ended_load : (word width : ℕ) → Ended exponent x (load word width x)
  ended_load word width = subst (Ended exponent x) (sym (load_leaves word width x)) (ended_answer exponent x (load_answer word width x))

  -- store
  ended_store : (word width v : ℕ) → Ended exponent x (store word width v x)
  ended_store word width v = go (store_checks word width v x) refl
    where
      go : (a : Answer) → store_checks word width v x ≡ a → Ended exponent x (store word width v x)
      go (Err r) e = subst (Ended exponent x) (store_declined word width v x r e) (refused refl refl)
      go (Ok a) e =
          let k = (store_parts word width v x a e).bytes in
          subst (Ended exponent x) (store_done word width v x a e)
          (accepted refl (written exponent x a (encode width v) (omega (arith, length-encode width v, k.inside))))

  -- fill
  ended_fill : (word n byte : ℕ) → Ended exponent x (fill word n byte x)
  ended_fill word n byte = go (fill_checks word n x) refl
    where
      go : (a : Answer) → fill_checks word n x ≡ a → Ended exponent x (fill word n byte x)
      go (Err r) e = subst (Ended exponent x) (fill_declined word n byte x r e) (refused refl refl)
      go (Ok a) e =
          let k = (fill_parts word n x a e).bytes in
          let m : length (replicate n byte) ≡ n = length-replicate n byte in
          subst (Ended exponent x) (fill_done word n byte x a e) (accepted refl (written exponent x a (replicate n byte) (omega (arith, k.inside))))

  -- copy
  ended_copy : (target source n : ℕ) → Ended exponent x (copy target source n x)
  ended_copy target source n = go (copy_checks target source n x) refl
    where
      go : (a : Answer) → copy_checks target source n x ≡ a → Ended exponent x (copy target source n x)
      go (Err r) e = subst (Ended exponent x) (copy_declined target source n x r e) (refused refl refl)
      go (Ok a) e =
          let p : Copies target source n x a = copy_parts target source n x a e in
          let m : length (take n (drop a x.image)) ≡ n = length-take-le n (drop a x.image) (simp length-drop (omega (arith, p.from.inside))) in
          subst (Ended exponent x) (copy_done target source n x a e)
          (accepted refl (written exponent x (unpack target).address (take n (drop a x.image)) (omega (arith, p.to.inside))))

  -- text copy
  ended_copy_text : (target source : ℕ) → Ended exponent x (copy_text target source x)
  ended_copy_text target source = go (copy_text_checks target source x) refl
    where
      go : (a : Answer) → copy_text_checks target source x ≡ a → Ended exponent x (copy_text target source x)
      go (Err r) e = subst (Ended exponent x) (copy_text_declined target source x r e) (refused refl refl)
      go (Ok n) e =
          let p : CopiesText target source x n = copy_text_parts target source x n e in
          let bytes : List ℕ = take n (drop (unpack source).address x.image) in
          let m : length bytes ≡ n = length-take-le n (drop (unpack source).address x.image) (simp length-drop (omega (arith, p.from))) in
          subst (Ended exponent x) (copy_text_done target source x n e)
          (accepted refl (written exponent x (unpack target).address bytes (omega (arith, p.to.inside))))

-- freeing singly keeps the slot exponent
free_exponent : (word : ℕ) (x : State) → exponent (free word x).after ≡ exponent x
unfolding exponent
free_exponent word x = go (free_release word x) refl
  where
    go : (a : Result FreedBlock Refusal) → free_release word x ≡ a → slot_exponent (free word x).after.image ≡ slot_exponent x.image
    go (Err r) e = ap (λ (o : Outcome). slot_exponent o.after.image) (sym (free_declined word x r e))
    go (Ok m) e =
        let h = m.header in
        let from = m.from in
        let to = m.to in
        let f : Frees word x h from to = free_parts word x h from to e in
        ap (λ (o : Outcome). slot_exponent o.after.image) (sym (free_done word x h from to (exponent x) _ _ e refl refl refl))
        ∙ (given_back_front x.image from to f.room f.high h f.low).1

-- and the shape
freed_shape : (ps : List ℕ) (x : State) → KeepsShape (exponent x) x (free_each ps x)
freed_shape [] x = subst (KeepsShape (exponent x) x) (sym (free_each_none x)) (shape_itself (exponent x) x)
freed_shape (p ∷ ps) x =
    let y : State = (free p x).after in
    subst (KeepsShape (exponent x) x) (sym (free_each_one p ps x))
    (shape_then (exponent x) x y (free_each ps y) (ended_shape (exponent x) x (free p x) (ended_free x p))
    (subst (λ (s : ℕ). KeepsShape s y (free_each ps y)) (free_exponent p x) (freed_shape ps y)))

-- release
ended_release : (x : State) (cue : ℕ) → Ended (exponent x) x (release_cue cue x)
ended_release x cue = go (release_checks cue x) refl
  where
    go : (a : Answer) → release_checks cue x ≡ a → Ended (exponent x) x (release_cue cue x)
    go (Err r) e = subst (Ended (exponent x) x) (release_declined cue x r e) (refused refl refl)
    go (Ok n) e =
        let y : State = free_each (cue_pointers cue x.image) x in
        subst (Ended (exponent x) x) (release_done cue x n y.image y.table e refl) (accepted refl (freed_shape (cue_pointers cue x.image) x))

-- every call
ended : (x : State) (c : Call) → Ended (exponent x) x (step c x)
ended x (allocates size type) = ended_allocate x size type 0
ended x (frees p) = ended_free x p
ended x (moves p d) = ended_move x p d
ended x (loads p width) = ended_load x p width
ended x (stores p width v) = ended_store x p width v
ended x (fills p n byte) = ended_fill x p n byte
ended x (copies t p n) = ended_copy x t p n
ended x (copies_text t p) = ended_copy_text x t p
ended x (allocates_for size type cue) = ended_allocate x size type cue
ended x (releases cue) = ended_release x cue

-- a refused compare gives no value
comparison_refused : (c : Comparison) → (comparison_number c ≡ 0 → ⊥) → comparison_value c ≡ pos 0
comparison_refused (Ok o) n = absurd (n refl)
comparison_refused (Err r) n = refl

-- refused distances are 0
measurement_refused : (m : Measurement) → (distances_number m ≡ 0 → ⊥) → (start_distance m ≡ pos 0) × (end_distance m ≡ pos 0)
measurement_refused (Ok d) n = absurd (n refl)
measurement_refused (Err r) n = (refl, refl)

-- a refused answer gives no value
answer_refused : (a : Answer) → (returned a ≡ 0 → ⊥) → value a ≡ 0
answer_refused (Ok v) n = absurd (n refl)
answer_refused (Err r) n = refl

-- a refused tally gives no values
usage_refused : (u : Usage) → (usage_number u ≡ 0 → ⊥) → (live_objects u ≡ 0) × (live_bytes u ≡ 0) × (free_bytes u ≡ 0) × (overhead_bytes u ≡ 0)
usage_refused (Ok c) n = absurd (n refl)
usage_refused (Err r) n = (refl, refl, refl, refl)

-- The claims.

-- demand 1
pub refusals_keep : RefusalsKeep
refusals_keep =
    record {
      set_up_lem = λ s x n. ended_keeps s x (set_up s x) (ended_set_up s x) n;
      calls = λ c x n. ended_keeps (exponent x) x (step c x) (ended x c) n;
      compares = λ p q n x e. comparison_refused (compare p q n x) e;
      distances = λ p x n. measurement_refused (distances p x) n;
      casts = λ list p wanted x n. answer_refused (has_type list p wanted x) n;
      totals = λ x n. answer_refused (free_total x) n;
      counts = λ x n. usage_refused (tally x) n;
    }

-- no length and no entry beyond the used ones is changed
pub shapes_kept : ShapesKept
unfolding exponent
shapes_kept =
    record {
      set_up_lem = λ s x. ended_shape s x (set_up s x) (ended_set_up s x);
      calls = λ c x. ended_shape (exponent x) x (step c x) (ended x c);
    }

-- what allocate leaves, where it takes the block at h
abbrev left : (size type cue : ℕ) (x : State) (h : ℕ) → State
left size type cue x h = state (allotted x.image h size type cue) (noted (slot_exponent x.image) h size h x.table)

module _ (size type cue : ℕ) (x : State) (h : ℕ) (fits : type < 2 ^ 16) (cue_fits : cue < 2 ^ 32) (a : Allocates size x h) where
  -- the free block lies behind the superblock
  low : 16 ≤ h
  low = sound_low x.image h a.lowest.is_sound

  -- and ends in the image
  ends : h + extent_at x.image h ≤ length x.image
  ends = sound-end x.image h a.lowest.is_sound

  -- the header that is carved in it
  carved-at : CarvedHeader x.image h size type cue a.lowest.fits_in ends
  carved-at = carved-header x.image h size type cue a.lowest.fits_in ends a.opens.short fits cue_fits

  -- and left there
  left-header : header_at (allotted x.image h size type cue) h ≡ fields (taken_extent x.image h size) 2 type size cue
  left-header = allotted-header x.image h size type cue a.lowest.fits_in ends h low ∙ carved-at.is_header

  -- the object stands there, on what allocate leaves
  left_stands : Stands (slot_exponent x.image) (left size type cue x h) h size
  left_stands =
      let long : length (allotted x.image h size type cue) ≡ length x.image = length-allotted x.image h size type cue a.lowest.fits_in ends in
      record {
        exponent = a.opens.high;
        inside = omega (arith, a.inside);
        short = omega (arith, a.opens.short);
        is_sound =
            sound_live_at (allotted x.image h size type cue) h (taken_extent x.image h size) type size cue left-header low (omega (arith, carved-at.ends))
            carved-at.holds carved-at.tight;
        is_live_lem = eq-eqb _ _ (ap (λ (d : Header). d.kind) left-header);
        size_is = ap (λ (d : Header). d.size) left-header;
        entry = noted_entry (slot_exponent x.image) h size h x.table a.indexed;
      }

  -- and its pointer leads to it
  left_leads : PointsBack size type cue x (left size type cue x h) (pack (pointer_to (slot_exponent x.image) h size))
  left_leads =
      let s : ℕ = slot_exponent x.image in
      let y : State = left size type cue x h in
      let p : ℕ = pack (pointer_to s h size) in
      let l : Located s (unpack p) y h = located_object s y h size p left_stands (own_pointer s h size a.opens.high (omega (arith, a.inside, a.opens.short))) in
      record {
        exponent_kept = allotted_exponent x.image h size type cue a.lowest.fits_in ends low;
        place = h;
        found = a.found;
        pointer = refl;
        good_tag_lem = l.good;
        leads = located_leads s (unpack p) y h l;
        header = sym l.place;
        read = located-at s (unpack p) y h l;
        size_kept = left_stands.size_is;
        type_kept = ap (λ (d : Header). d.ty) left-header;
        cue_kept = ap (λ (d : Header). d.cue) left-header;
      }

-- demand 2, of allocate
pub leads_back_lem : LeadsBack
unfolding LeadsBack
leads_back_lem size type cue x fits cue_fits e = go (allocate_checks size x) refl
  where
    go : (a : Answer) → allocate_checks size x ≡ a → PointsBack size type cue x (allocate_for size type cue x).after (value (allocate_for size type cue x).answer)
    go (Err r) q = absurd (not-accepted r (allocate_declined size x type cue r q) e)
    go (Ok h) q =
        subst (λ (o : Outcome). PointsBack size type cue x o.after (value o.answer))
        (allocate_done size x type cue h (slot_exponent x.image) _ _ _ _ q refl refl refl refl refl) (left_leads size type cue x h fits cue_fits (allocate_parts size x h q))

-- on what a store leaves, the load gives its value
stored_read : (p width v : ℕ) (x : State) (a : ℕ) → Stores p width v x a
    → load_answer p width (state (put x.image a (encode width v)) x.table) ≡ Ok v
stored_read p width v x a t =
    let k = t.bytes in
    let n : length (encode width v) ≡ width = length-encode width v in
    let behind : 16 ≤ a = omega (arith, k.low) in
    let fits : a + length (encode width v) ≤ length x.image = omega (arith, k.inside, n) in
    sym
    (load_given (state _ _) t.exponent (opening_kept x t.exponent a (encode width v) t.opens behind fits) p width t.good_width_lem a
    (accessed_again t.exponent (unpack p) width x a (encode width v) k n))
    ∙ ap Ok (field_put x.image a width v k.inside t.fits)

-- a load of that width gives that value
abbrev Gives : (p width v : ℕ) → State → Type 0
Gives p width v y = IsAccepted (load p width y) × (value (load p width y).answer ≡ v)

-- read-back
pub reads_back : ReadsBack
unfolding ReadsBack
reads_back p width v x e = go (store_checks p width v x) refl
  where
    go : (a : Answer) → store_checks p width v x ≡ a → Gives p width v (store p width v x).after
    go (Err r) q = absurd (not-accepted r (store_declined p width v x r q) e)
    go (Ok a) q =
        let y : State = state (put x.image a (encode width v)) x.table in
        let read : load p width y ≡ record { answer = Ok v; after = y } =
        load_leaves p width y ∙ ap (λ (b : Answer). record { answer = b; after = y }) (stored_read p width v x a (store_parts p width v x a q))
        in
        subst (λ (o : Outcome). Gives p width v o.after) (store_done p width v x a q)
        (subst (λ (o : Outcome). IsAccepted o × (value o.answer ≡ v)) (sym read) (refl, refl))

-- the balance of tally
pub counts_all : CountsAll
unfolding CountsAll
counts_all = tally_balanced

-- compare is an order
pub compares_in_order : ComparesInOrder
compares_in_order = record { swapped = swapped_order; transitive = transitive_order }

-- release frees all objects of its cue
pub releases_all : ReleasesAll
unfolding ReleasesAll
releases_all cue x e = go (release_checks cue x) refl
  where
    ps : List ℕ
    ps = cue_pointers cue x.image

    go : (a : Answer) → release_checks cue x ≡ a → EachFreed ps x × (value (release_cue cue x).answer ≡ length ps)
    go (Err r) q = absurd (not-accepted r (release_declined cue x r q) e)
    go (Ok n) q =
        let s : ℕ = slot_exponent x.image in
        let (places, r, count) = release_parts cue n x q in
        let p : ps ≡ pointers_to s x.image places = cue_pointers_lem s x.image cue places refl r.walked in
        let y : State = free_each ps x in (
          subst (λ (qs : List ℕ). EachFreed qs x) (sym p) (sweep_freed (length x.image) (omega arith) (sweep_begins r)),
          ap (λ (o : Outcome). value o.answer) (sym (release_done cue x n y.image y.table q refl))
              ∙ count ∙ sym (length_pointers s x.image places) ∙ ap length (sym p),
        )

-- what a tag is read as
read_as : (s : ℕ) (p : Pointer) (x : State) (o : Reading) → FoundAt s p x o → ReadAs s p x o
read_as s p x o f =
    let n : ℕ = size_at x.image o.header in
    let b : o.base ≡ o.header + 16 = ap (λ (r : Reading). r.base) f.read in
    let size : o.size ≡ n = ap (λ (r : Reading). r.size) f.read in
    let a : o.offset ≡ from_start o.header p = ap (λ (r : Reading). r.offset) f.read in
    let z : o.remaining ≡ to_end o.header n p = ap (λ (r : Reading). r.remaining) f.read in
    record {
      header = f.tested;
      base = b;
      size = size;
      offset = a ∙ sym (ap (λ (k : ℕ). pos p.address -ℤ pos k) b ∙ start_is o.header p);
      remaining = z ∙ sym (ap₂ (λ (k m : ℕ). pos (k + m) -ℤ pos p.address) b size ∙ end_is o.header p n);
      sum = ap₂ ◌+ℤ◌ a z ∙ distances-sum o.header p n ∙ ap pos (sym size);
      in_body_lem = λ k. sym (found_body s p x o f k);
      at_base = subst (λ (k : ℕ). (o.offset ≡ pos 0) ↔ (p.address ≡ k)) (sym b) (found_base s p x o f);
    }

-- distances gives it
distances-read : (s p : ℕ) (x : State) (o : Reading) → opening x ≡ Ok s → FoundAt s (unpack p) x o
    → distances p x ≡ measured_as o.offset o.remaining
distances-read s p x o e f =
    sym (distances-given x s e p o.header f.tested) ∙ ap (λ (r : Reading). measured_as r.offset r.remaining) (sym f.read)

-- each tag is measured
pub measures : Measures
measures =
    record {
      reads = λ s p x o e. read_as s p x o (read_found s p x o e);
      shown =
          λ s p x o e q.
          let f = read_found s (unpack p) x o q in
          let d = distances-read s p x o e f in
          (d, ap₂ ◌+ℤ◌ (ap start_distance d) (ap end_distance d) ∙ (read_as s (unpack p) x o f).sum);
      declined = λ s p x r e q. sym (distances_unread x s e p r (read-refused s (unpack p) x r q));
    }

-- an object of no bytes gives no access
pub empty_bodies : EmptyBodies
empty_bodies = record { loads = empty_load; others = empty_access }
