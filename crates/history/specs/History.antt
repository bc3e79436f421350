-- Demand 3, one claim about every list of calls from a freshly set up image and table, and demand 2's part on such lists: document 01,
-- "Demand 3's list and book" and "Why a call was declined", and document 02. Assumes nothing.
use Rattle.store.specs.State.{measured_as}
use Rattle.std.specs.Prelude.{ℕ, ◌+◌, ◌-◌, ◌^◌, ◌≤◌, ◌<◌, ◌≡◌, ◌⊎◌, ◌↔◌, Bool, true, false, ◌&&◌, ◌||◌, length, get_or, ltb, ℤ, pos, negsuc, Some, List, [], ◌∷◌}
use Rattle.std.proofs.Math.IntN.{sub_ℕ}
use mathlib.Core.List.{Memᴰ}
use Rattle.frame.specs.Pointers.{unpack, good_tag}
use Rattle.frame.specs.Tags.{is_small, entry_of}
use Rattle.block.specs.Bytes.{decode}
use Rattle.block.specs.Order.{compare_bytes, sign}
use Rattle.block.specs.Layout.{slot_exponent, extent_at, size_at, cue_at}
use Rattle.store.specs.State.{State, Outcome, IsAccepted, returned, value, comparison_number, comparison_value}
use Rattle.store.specs.Calls.{set_up, allocate_for, load, store, free, fill, copy, compare, copy_text, release_cue, good_width, leads_back, header_place, distances}
use Rattle.store.specs.Step.{Call, allocates, frees, moves, loads, stores, fills, copies, copies_text, allocates_for, releases, step}
use Rattle.history.specs.Heap.{Object, Heap, start, holds, owner_of, inside, bytes_at, text_in, of_cue, hear}

-- Lists.

-- whether the number is a live object's pointer
unfoldable pub known : Heap → ℕ → Bool
known [] p = false
known (o ∷ os) p = holds o p || known os p

-- a 64-bit two's complement number
abbrev pub signed64 : ℤ → Bool
signed64 (pos n) = ltb n (2 ^ 63)
signed64 (negsuc n) = ltb n (2 ^ 63)

-- What a list may hold: arguments that are numbers of their types, and for store, fill, copy and text copy only pointers of live objects.
abbrev pub admitted : Heap → Call → Bool
admitted heap (allocates size type) = ltb size (2 ^ 32) && ltb type (2 ^ 16)
admitted heap (frees p) = ltb p (2 ^ 64)
admitted heap (moves p d) = ltb p (2 ^ 64) && signed64 d
admitted heap (loads p width) = ltb p (2 ^ 64) && ltb width (2 ^ 64)
admitted heap (stores p width v) = known heap p && (ltb width (2 ^ 64) && ltb v (2 ^ 64))
admitted heap (fills p n byte) = known heap p && (ltb n (2 ^ 32) && ltb byte 256)
admitted heap (copies t p n) = known heap t && (known heap p && ltb n (2 ^ 32))
admitted heap (copies_text t p) = known heap t && known heap p
admitted heap (allocates_for size type cue) = ltb size (2 ^ 32) && (ltb type (2 ^ 16) && ltb cue (2 ^ 32))
admitted heap (releases cue) = ltb cue (2 ^ 32)

-- An image and table with the abstract heap beside them.
pub record Configuration : Type 0 where
  pub state : State
  pub heap : Heap

-- a call on them, as the call before it left them
abbrev pub next : Call → Configuration → Configuration
next c x =
    let r : Outcome = step c x.state in
    record { state = r.after; heap = hear x.heap c r.answer }

-- what a list of calls leaves
unfoldable pub after : List Call → Configuration → Configuration
after [] x = x
after (c ∷ cs) x = after cs (next c x)

-- each call of the list is one that it may hold
unfoldable pub all_admitted : List Call → Configuration → Bool
all_admitted [] x = true
all_admitted (c ∷ cs) x = admitted x.heap c && all_admitted cs (next c x)

-- what set-up leaves, with the empty heap
abbrev pub begun : ℕ → State → Configuration
begun s x = record { state = (set_up s x).after; heap = [] }

-- What holds after a list.

-- a relation of any two objects at different places in the heap, the earlier one first
abbrev pub Pairwise : Heap → (Object → Object → Type 0) → Type 0
Pairwise heap P = (i j : ℕ) (d : Object) → i < j → j < length heap → P (get_or heap i d) (get_or heap j d)

-- the object lives
abbrev pub In : Object → Heap → Type 0
In o heap = Memᴰ o heap

-- an object's header place
abbrev pub header_of : Object → ℕ
header_of o = start o - 16

-- a run of n bytes from a on, outside the superblock (document 01's "lead-in") and every live extent
pub record FreeRun (x : Configuration) (a n : ℕ) : Type 0 where
  pub behind_superblock : 16 ≤ a
  pub in_image : a + n ≤ length x.state.image
  pub outside :
      (o : Object) → In o x.heap → (header_of o + extent_at x.state.image (header_of o) ≤ a) ⊎ (a + n ≤ header_of o)

-- two large-framed objects have different table entries
abbrev pub EntriesApart : ℕ → Object → Object → Type 0
EntriesApart s o o' =
    is_small s (header_of o) o.size ≡ false → is_small s (header_of o') o'.size ≡ false
    → entry_of s (header_of o) o.size ≡ entry_of s (header_of o') o'.size → ⊥

-- no number is a pointer of both
abbrev pub PointersApart : Object → Object → Type 0
PointersApart o o' = (p : ℕ) → holds o p ≡ true → holds o' p ≡ true → ⊥

-- each pointer of a live object leads to that object's header, start and size
abbrev pub PointersLead : ℕ → Configuration → Type 0
PointersLead s x =
    (o : Object) → In o x.heap → (p : ℕ) → holds o p ≡ true
    → (good_tag s (unpack p) ≡ true) × (leads_back s (unpack p) x.state ≡ true)
    × (header_place s (unpack p) x.state.table ≡ header_of o) × (header_of o + 16 ≡ start o)
    × (size_at x.state.image (header_of o) ≡ o.size)

-- the header of each live object has its cue
abbrev pub CuesKept : Configuration → Type 0
CuesKept x = (o : Object) → In o x.heap → cue_at x.state.image (header_of o) ≡ o.cue

-- a free is accepted exactly for a number that allocate gave for a live object
abbrev pub FreesExactly : Configuration → Type 0
FreesExactly x = (p : ℕ) → p < 2 ^ 64 → IsAccepted (free p x.state) ↔ ((o : Object) × In o x.heap × (o.answer ≡ p))

-- a release is accepted, and gives how many live objects its cue has
abbrev pub ReleasesCounted : Configuration → Type 0
ReleasesCounted x =
    (cue : ℕ) → cue < 2 ^ 32
    → IsAccepted (release_cue cue x.state) × (value (release_cue cue x.state).answer ≡ length (of_cue x.heap cue))

-- through a pointer of a live object, a call is accepted exactly when all n bytes lie inside the pointer's object
abbrev pub Exactly : Configuration → ℕ → (ℕ → State → Outcome) → Type 0
Exactly x n call = (o : Object) (p : ℕ) → owner_of x.heap p ≡ Some o → IsAccepted (call p x.state) ↔ (inside o p n ≡ true)

abbrev pub LoadsExactly : Configuration → Type 0
LoadsExactly x = (width : ℕ) → good_width width ≡ true → Exactly x width (λ p. load p width)

abbrev pub StoresExactly : Configuration → Type 0
StoresExactly x = (width v : ℕ) → good_width width ≡ true → v < 256 ^ width → Exactly x width (λ p. store p width v)

abbrev pub FillsExactly : Configuration → Type 0
FillsExactly x = (n byte : ℕ) → 0 < n → n < 2 ^ 32 → byte < 256 → Exactly x n (λ p. fill p n byte)

-- a claim about pointers of two live objects, which may be one
abbrev pub EachTwo : Configuration → (Object → Object → ℕ → ℕ → Type 0) → Type 0
EachTwo x P = (o o' : Object) (p q : ℕ) → owner_of x.heap p ≡ Some o → owner_of x.heap q ≡ Some o' → P o o' p q

-- n bytes from each pointer's address on lie inside its object
abbrev pub BothInside : Object → Object → ℕ → ℕ → ℕ → Type 0
BothInside o o' p q n = (inside o p n ≡ true) × (inside o' q n ≡ true)

-- a copy, when both the target's bytes and the source's do
abbrev pub CopiesExactly : Configuration → Type 0
CopiesExactly x =
    EachTwo x λ o o' t p. (n : ℕ) → 0 < n → n < 2 ^ 32 → IsAccepted (copy t p n x.state) ↔ BothInside o o' t p n

-- a compare, when both the left's bytes and the right's do
abbrev pub ComparesExactly : Configuration → Type 0
ComparesExactly x =
    EachTwo x λ o o' p q. (n : ℕ) → 0 < n → n < 2 ^ 32 → (comparison_number (compare p q n x.state) ≡ 0) ↔ BothInside o o' p q n

-- a text copy, when a zero byte of the source's object ends the text there, and its length plus one bytes of both do
abbrev pub TextsExactly : Configuration → Type 0
TextsExactly x =
    EachTwo x λ o o' t p.
    IsAccepted (copy_text t p x.state) ↔ ((n : ℕ) × (text_in o' p ≡ Some n) × BothInside o o' t p (n + 1))

-- the distances of a live object's pointer, in its body or not, are those from the object's start and to its end
abbrev pub DistancesShown : Configuration → Type 0
DistancesShown x =
    (o : Object) (p : ℕ) → owner_of x.heap p ≡ Some o
    → distances p x.state ≡ measured_as (sub_ℕ (unpack p).address (start o)) (sub_ℕ (start o + o.size) (unpack p).address)

-- an accepted load gives the heap's bytes, little-endian
abbrev pub LoadsBytes : Configuration → Type 0
LoadsBytes x =
    (o : Object) (p : ℕ) → owner_of x.heap p ≡ Some o → (width : ℕ) → good_width width ≡ true
    → IsAccepted (load p width x.state) → value (load p width x.state).answer ≡ decode (bytes_at o p width)

-- an accepted compare gives how the heap's bytes stand to each other
abbrev pub ComparesBytes : Configuration → Type 0
ComparesBytes x =
    EachTwo x λ o o' p q. (n : ℕ) → 0 < n → n < 2 ^ 32 → comparison_number (compare p q n x.state) ≡ 0
    → comparison_value (compare p q n x.state) ≡ sign (compare_bytes (bytes_at o p n) (bytes_at o' q n))

-- an accepted text copy gives the length of the heap's text plus one
abbrev pub TextsCounted : Configuration → Type 0
TextsCounted x =
    EachTwo x λ o o' t p. (n : ℕ) → text_in o' p ≡ Some n → IsAccepted (copy_text t p x.state) → value (copy_text t p x.state).answer ≡ n + 1

-- a claim about the number that each allocate returns, for any cue (0 for none)
abbrev pub EachAllocate : State → (ℕ → ℕ → Type 0) → Type 0
EachAllocate x P =
    (size type cue : ℕ) → size < 2 ^ 32 → type < 2 ^ 16 → cue < 2 ^ 32 → P size (returned (allocate_for size type cue x).answer)

-- What demand 3 says, and what demand 2 says of its lists.
pub record Holds (s : ℕ) (x : Configuration) : Type 0 where
  pub slot_exponent_lem : slot_exponent x.state.image ≡ s
  pub byte_counts : (o : Object) → In o x.heap → length o.bytes ≡ o.size
  -- no two live objects share a header place, a table entry or a pointer
  pub header_places : Pairwise x.heap (λ o o'. header_of o ≡ header_of o' → ⊥)
  pub entries : Pairwise x.heap (EntriesApart s)
  pub pointers : Pairwise x.heap PointersApart
  pub leads : PointersLead s x
  pub cues : CuesKept x
  -- calls are accepted exactly when they should be; a load gives what was last written, and compare and text copy go by it
  pub frees : FreesExactly x
  pub releases : ReleasesCounted x
  pub loads : LoadsExactly x
  pub stores : StoresExactly x
  pub fills : FillsExactly x
  pub copies : CopiesExactly x
  pub compares : ComparesExactly x
  pub texts : TextsExactly x
  pub distances : DistancesShown x
  pub reads : LoadsBytes x
  pub orders : ComparesBytes x
  pub text_counts : TextsCounted x
  -- allocate of any size, 0 too, is accepted or answers 8, and never 9: it is accepted exactly when some run is long enough, and gets 8 exactly when none is
  pub answers : EachAllocate x.state (λ size r. (r ≡ 0) ⊎ (r ≡ 8))
  pub no_conflict : EachAllocate x.state (λ size r. r ≡ 9 → ⊥)
  pub room : EachAllocate x.state (λ size r. (r ≡ 0) ↔ ((a : ℕ) × FreeRun x a (16 + size)))
  pub no_space : EachAllocate x.state (λ size r. (r ≡ 8) ↔ ((a : ℕ) → FreeRun x a (16 + size) → ⊥))

-- A claim about what every history begun by set-up leaves: an accepted set-up on any image and table, then any admitted list of calls.
abbrev pub AfterEveryHistory : (ℕ → Configuration → Type 0) → Type 0
AfterEveryHistory P =
    (s : ℕ) (x : State) → IsAccepted (set_up s x) → (calls : List Call) → all_admitted calls (begun s x) ≡ true
    → P s (after calls (begun s x))

-- Demand 3, whole.
unfoldable pub Demand3 : Type 0
Demand3 = AfterEveryHistory Holds
