-- What holds of single calls on every image and table, damaged ones too: demand 1, of demand 2 the pointer that allocate gives, read-back, the
-- balance of tally, that compare is an order, that a release frees all objects of its cue, what the distances say, that an object of no bytes gives no
-- access, and what the type check before a cast says. Assumes nothing.
use Rattle.store.specs.State.{measured_as}
use Rattle.std.specs.Prelude.{ℕ, ◌+◌, ◌^◌, ◌≤◌, ◌<◌, ◌≡◌, true, ◌&&◌, List, [], ◌∷◌, ◌⊎◌, ◌↔◌, length, drop, pos, neg_ℤ, ◌+ℤ◌, ◌-ℤ◌, Err, Ok}
use Rattle.std.specs.Int.Signed.{le_z}
use Rattle.frame.specs.Pointers.{unpack, pack, good_tag}
use Rattle.frame.specs.Tags.{pointer_to, used_entries}
use Rattle.frame.specs.declared.parts.Pointer.{Pointer}
use Rattle.block.specs.Layout.{slot_exponent, type_at, size_at, cue_at}
use Rattle.block.specs.Walk.{first_fit}
use Rattle.block.specs.declared.walk.Fit.TheVariants as fit
use Rattle.descriptors.specs.Descriptors as descriptors
use Rattle.descriptors.specs.Claims.{Describes, SomeBad, Has}
use Rattle.store.specs.State.{State, IsAccepted, returned, value, comparison_number, comparison_value, distances_number, start_distance, end_distance, usage_number, live_objects, live_bytes, free_bytes, overhead_bytes, Balances}
use Rattle.store.specs.Calls.{set_up, allocate_for, load, store, fill, copy, free, compare, copy_text, cue_pointers, release_cue, free_total, tally, opening, leads_back, header_place, located, read_tag, in_body, distances, has_type}
use Rattle.store.specs.Step.{Call, step}
use Rattle.store.specs.declared.answer.Refusal.{Refusal}
use Rattle.store.specs.declared.locate.Reading.{Reading}

-- Demand 1: a refusal leaves image and table as they were, and every value is 0.
pub record RefusalsKeep : Type 0 where
  pub set_up_lem : (s : ℕ) (x : State) → (IsAccepted (set_up s x) → ⊥) → ((set_up s x).after ≡ x) × (value (set_up s x).answer ≡ 0)
  pub calls : (c : Call) (x : State) → (IsAccepted (step c x) → ⊥) → ((step c x).after ≡ x) × (value (step c x).answer ≡ 0)
  pub compares : (p q n : ℕ) (x : State) → (comparison_number (compare p q n x) ≡ 0 → ⊥) → comparison_value (compare p q n x) ≡ pos 0
  pub distances :
      (p : ℕ) (x : State) → (distances_number (distances p x) ≡ 0 → ⊥)
      → (start_distance (distances p x) ≡ pos 0) × (end_distance (distances p x) ≡ pos 0)
  pub casts : (list : List ℕ) (p wanted : ℕ) (x : State) → (returned (has_type list p wanted x) ≡ 0 → ⊥) → value (has_type list p wanted x) ≡ 0
  pub totals : (x : State) → (returned (free_total x) ≡ 0 → ⊥) → value (free_total x) ≡ 0
  pub counts :
      (x : State) → (usage_number (tally x) ≡ 0 → ⊥)
      → (live_objects (tally x) ≡ 0) × (live_bytes (tally x) ≡ 0) × (free_bytes (tally x) ≡ 0) × (overhead_bytes (tally x) ≡ 0)

-- y has the lengths of x, and its table entries beyond the used ones
unfoldable pub KeepsShape : ℕ → State → State → Type 0
KeepsShape s x y =
    (length y.image ≡ length x.image) × (length y.table ≡ length x.table)
    × (drop (used_entries s (length x.image)) y.table ≡ drop (used_entries s (length x.image)) x.table)

-- No call changes a length, or writes a table entry beyond the used ones; compare, distances, the type check, free total and tally leave all as it was, by
-- their definitions.
pub record ShapesKept : Type 0 where
  pub set_up_lem : (s : ℕ) (x : State) → KeepsShape s x (set_up s x).after
  pub calls : (c : Call) (x : State) → KeepsShape (slot_exponent x.image) x (step c x).after

-- p is the pointer to an object of `size` bytes in the block that first fit finds in x, and on y reading its tag leads back to that header, which has
-- the type and the cue
pub record PointsBack (size type cue : ℕ) (x y : State) (p : ℕ) : Type 0 where
  pub exponent_kept : slot_exponent y.image ≡ slot_exponent x.image
  pub place : ℕ
  pub found : first_fit x.image (16 + size) ≡ fit.At place
  pub pointer : p ≡ pack (pointer_to (slot_exponent x.image) place size)
  pub good_tag_lem : good_tag (slot_exponent x.image) (unpack p) ≡ true
  pub leads : leads_back (slot_exponent x.image) (unpack p) y ≡ true
  pub header : header_place (slot_exponent x.image) (unpack p) y.table ≡ place
  pub read : located (slot_exponent x.image) (unpack p) y ≡ Ok place
  pub size_kept : size_at y.image place ≡ size
  pub type_kept : type_at y.image place ≡ type
  pub cue_kept : cue_at y.image place ≡ cue

-- Demand 2: an accepted allocate, for any cue (0 for none), gives such a pointer, for the image and table that it leaves.
unfoldable pub LeadsBack : Type 0
LeadsBack =
    (size type cue : ℕ) (x : State) → type < 2 ^ 16 → cue < 2 ^ 32 → IsAccepted (allocate_for size type cue x)
    → PointsBack size type cue x (allocate_for size type cue x).after (value (allocate_for size type cue x).answer)

-- Read-back: after an accepted store, a load of the same width through the same pointer is accepted and gives the value.
unfoldable pub ReadsBack : Type 0
ReadsBack =
    (p width v : ℕ) (x : State) → IsAccepted (store p width v x)
    → IsAccepted (load p width (store p width v x).after) × (value (load p width (store p width v x).after).answer ≡ v)

-- An accepted tally counts every byte behind the superblock once: live, free or overhead.
unfoldable pub CountsAll : Type 0
CountsAll = (x : State) → usage_number (tally x) ≡ 0 → Balances (length x.image) (tally x)

-- Compare orders the bytes behind the pointers: among accepted compares of one length on one image and table, swapping the operands negates the value, and
-- "not above 0" is transitive. The compares that are concluded about are accepted too.
pub record ComparesInOrder : Type 0 where
  pub swapped :
      (p q n : ℕ) (x : State) → comparison_number (compare p q n x) ≡ 0
      → (comparison_number (compare q p n x) ≡ 0) × (comparison_value (compare q p n x) ≡ neg_ℤ (comparison_value (compare p q n x)))
  pub transitive :
      (p q r n : ℕ) (x : State) → comparison_number (compare p q n x) ≡ 0 → comparison_number (compare q r n x) ≡ 0
      → le_z (comparison_value (compare p q n x)) (pos 0) ≡ true → le_z (comparison_value (compare q r n x)) (pos 0) ≡ true
      → (comparison_number (compare p r n x) ≡ 0) × (le_z (comparison_value (compare p r n x)) (pos 0) ≡ true)

-- each of these frees is accepted, singly and in this order
pub data EachFreed : List ℕ → State → Type 0 where
  none_left : (x : State) → EachFreed [] x
  one_freed : (p : ℕ) (ps : List ℕ) (x : State) → IsAccepted (free p x) → EachFreed ps (free p x).after → EachFreed (p ∷ ps) x

-- An accepted release frees all objects of its cue: none of its single frees is refused, and its value is their number.
unfoldable pub ReleasesAll : Type 0
ReleasesAll =
    (cue : ℕ) (x : State) → IsAccepted (release_cue cue x)
    → EachFreed (cue_pointers cue x.image) x × (value (release_cue cue x).answer ≡ length (cue_pointers cue x.image))

-- o is what the tag of p is read as: header, base and size of the object, and how far the address is from both its ends. The sum of these two is the size; row
-- 13 is two signed tests of them, and row 15 one
pub record ReadAs (s : ℕ) (p : Pointer) (x : State) (o : Reading) : Type 0 where
  pub header : located s p x ≡ Ok o.header
  pub base : o.base ≡ o.header + 16
  pub size : o.size ≡ size_at x.image o.header
  pub offset : o.offset ≡ pos p.address -ℤ pos o.base
  pub remaining : o.remaining ≡ pos (o.base + o.size) -ℤ pos p.address
  pub sum : o.offset +ℤ o.remaining ≡ pos o.size
  pub in_body_lem : (n : ℕ) → in_body x.image o.header p n ≡ le_z (pos 0) o.offset && le_z (pos n) o.remaining
  pub at_base : (o.offset ≡ pos 0) ↔ (p.address ≡ o.base)

-- Each tag that leads to an object is read so, and distances gives the two that were read: their sum is the size.
pub record Measures : Type 0 where
  pub reads : (s : ℕ) (p : Pointer) (x : State) (o : Reading) → read_tag s p x ≡ Ok o → ReadAs s p x o
  pub shown :
      (s p : ℕ) (x : State) (o : Reading) → opening x ≡ Ok s → read_tag s (unpack p) x ≡ Ok o
      → (distances p x ≡ measured_as o.offset o.remaining)
      × (start_distance (distances p x) +ℤ end_distance (distances p x) ≡ pos o.size)
  pub declined :
      (s p : ℕ) (x : State) (r : Refusal) → opening x ≡ Ok s → read_tag s (unpack p) x ≡ Err r
      → distances p x ≡ Err r

-- no load through p is accepted, of any width
abbrev pub NoLoad : ℕ → State → Type 0
NoLoad p x = (width : ℕ) → IsAccepted (load p width x) → ⊥

-- no store, fill, copy, compare or text copy through p is accepted, however many bytes it asks for, and whatever the other pointer
pub record NoAccess (p : ℕ) (x : State) : Type 0 where
  pub stores : (width v : ℕ) → IsAccepted (store p width v x) → ⊥
  pub fills : (n byte : ℕ) → IsAccepted (fill p n byte x) → ⊥
  pub copies_to : (source n : ℕ) → IsAccepted (copy p source n x) → ⊥
  pub copies_from : (target n : ℕ) → IsAccepted (copy target p n x) → ⊥
  pub compares_left : (right n : ℕ) → comparison_number (compare p right n x) ≡ 0 → ⊥
  pub compares_right : (left n : ℕ) → comparison_number (compare left p n x) ≡ 0 → ⊥
  pub texts_to : (source : ℕ) → IsAccepted (copy_text p source x) → ⊥
  pub texts_from : (target : ℕ) → IsAccepted (copy_text target p x) → ⊥

-- a claim about each number whose tag leads to an object of no bytes
abbrev pub EachEmpty : (ℕ → State → Type 0) → Type 0
EachEmpty P =
    (s p : ℕ) (x : State) (h : ℕ) → opening x ≡ Ok s → located s (unpack p) x ≡ Ok h → size_at x.image h ≡ 0 → P p x

-- Nothing is read or written through it.
pub record EmptyBodies : Type 0 where
  pub loads : EachEmpty NoLoad
  pub others : EachEmpty NoAccess

-- Rows 4, 5, 24, 10, 11 and 25 are passed: no descriptor of the list is bad, and the tag of p leads to the object at h, whose type is described at q with no
-- more bytes than the object has.
pub record Castable (list : List ℕ) (p : ℕ) (x : State) (h q : ℕ) : Type 0 where
  pub exponent : ℕ
  pub opens : opening x ≡ Ok exponent
  pub none_bad : SomeBad list → ⊥
  pub object : located exponent (unpack p) x ≡ Ok h
  pub described : Describes list (length list) (type_at x.image h) q
  pub covered : descriptors.size_at list q ≤ size_at x.image h

-- the address of p is so far behind the base of the object at h that the object's type has the wanted one there
pub record HasWanted (list : List ℕ) (p wanted : ℕ) (x : State) (h : ℕ) : Type 0 where
  pub offset : ℕ
  pub distance : (unpack p).address ≡ h + 16 + offset
  pub has : Has list (type_at x.image h) wanted offset

-- the type is not listed, or it is described with more bytes than `size`
abbrev pub Undescribes : List ℕ → ℕ → ℕ → Type 0
Undescribes list type size =
    ((q : ℕ) → Describes list (length list) type q → ⊥) ⊎ ((q : ℕ) × Describes list (length list) type q × (size < descriptors.size_at list q))

-- The check is accepted exactly when its rows are passed; then it says yes exactly when the type has the wanted one at the pointer's distance, and no exactly
-- when it has not. Its rows come in their order, 24 exactly when a descriptor is bad.
pub record CastChecked (list : List ℕ) (p wanted : ℕ) (x : State) : Type 0 where
  pub accepted : (returned (has_type list p wanted x) ≡ 0) ↔ ((h q : ℕ) × Castable list p x h q)
  pub yes : (h q : ℕ) → Castable list p x h q → (has_type list p wanted x ≡ Ok 1) ↔ HasWanted list p wanted x h
  pub no : (h q : ℕ) → Castable list p x h q → (has_type list p wanted x ≡ Ok 0) ↔ (HasWanted list p wanted x h → ⊥)
  pub shut : (r : Refusal) → opening x ≡ Err r → has_type list p wanted x ≡ Err r
  pub bad_list : (s : ℕ) → opening x ≡ Ok s → (returned (has_type list p wanted x) ≡ 24) ↔ SomeBad list
  pub unread :
      (s : ℕ) (r : Refusal) → opening x ≡ Ok s → (SomeBad list → ⊥) → located s (unpack p) x ≡ Err r → has_type list p wanted x ≡ Err r
  pub undescribed :
      (s h : ℕ) → opening x ≡ Ok s → (SomeBad list → ⊥) → located s (unpack p) x ≡ Ok h
      → (returned (has_type list p wanted x) ≡ 25) ↔ Undescribes list (type_at x.image h) (size_at x.image h)

-- So it is for every list, pointer and wanted type, on every image and table.
unfoldable pub ChecksCasts : Type 0
ChecksCasts = (list : List ℕ) (p wanted : ℕ) (x : State) → CastChecked list p wanted x
