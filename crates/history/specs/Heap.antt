-- The abstract heap, document 01's "book": which objects live, by the calls' arguments and the answers of allocate and move. Assumes nothing.
use Rattle.std.specs.Prelude.{ℕ, ◌+◌, ◌-◌, ◌^◌, ◌≡◌, Bool, true, false, not, cond, ◌&&◌, ◌||◌, List, [], ◌∷◌, ◌++◌, take, drop, replicate, leb, ltb, eqb, None, Option, Some}
use Rattle.frame.specs.Pointers.{unpack}
use Rattle.block.specs.Bytes.{encode, put}
use Rattle.block.specs.Text.{text_of}
use Rattle.store.specs.State.{returned, value}
use Rattle.store.specs.Calls.{good_width}
use Rattle.store.specs.Step.{Call, allocates, frees, moves, loads, stores, fills, copies, copies_text, allocates_for, releases}
use Rattle.store.specs.State.{Answer}

-- A live object: allocate's answer, the size, the cue, the set of its pointers, and as many bytes as the size.
pub record Object : Type 0 where
  pub answer : ℕ
  pub size : ℕ
  pub cue : ℕ
  pub pointers : List ℕ
  pub bytes : List ℕ

-- the live objects, in the order of their allocation
abbrev pub Heap : Type 0
Heap = List Object

-- the address in allocate's answer; byte i stands at start + i
abbrev pub start : Object → ℕ
start o = (unpack o.answer).address

-- whether a number is in a set
unfoldable pub member : ℕ → List ℕ → Bool
member p [] = false
member p (q ∷ qs) = eqb p q || member p qs

-- whether the number is a pointer of the object
abbrev pub holds : Object → ℕ → Bool
holds o p = member p o.pointers

-- the pointer's object (its owner): the earliest allocated one whose set holds it
unfoldable pub owner_of : Heap → ℕ → Option Object
owner_of [] p = None
owner_of (o ∷ os) p = cond (holds o p) (Some o) (owner_of os p)

-- how far behind the object's start the pointer's address is
abbrev pub offset : Object → ℕ → ℕ
offset o p = (unpack p).address - start o

-- n bytes from the pointer's address on lie inside the object
unfoldable pub inside : Object → ℕ → ℕ → Bool
inside o p n = leb (start o) (unpack p).address && leb ((unpack p).address + n) (start o + o.size)

-- the object's n bytes from the pointer's address on
abbrev pub bytes_at : Object → ℕ → ℕ → List ℕ
bytes_at o p n = take n (drop (offset o p) o.bytes)

-- the object with bytes from the pointer's address on replaced
abbrev pub written : ℕ → List ℕ → Object → Object
written p bytes o =
    record { answer = o.answer; size = o.size; cue = o.cue; pointers = o.pointers; bytes = put o.bytes (offset o p) bytes }

-- the object with one pointer more
abbrev pub pointed : ℕ → Object → Object
pointed q o = record { answer = o.answer; size = o.size; cue = o.cue; pointers = q ∷ o.pointers; bytes = o.bytes }

-- a new object: its answer is its one pointer, and all its bytes are zero
abbrev pub new_object : ℕ → ℕ → ℕ → Object
new_object answer size cue = record { answer = answer; size = size; cue = cue; pointers = answer ∷ []; bytes = replicate size 0 }

-- the heap with the pointer's object changed
unfoldable pub change : (Object → Object) → Heap → ℕ → Heap
change f [] p = []
change f (o ∷ os) p = cond (holds o p) (f o ∷ os) (o ∷ change f os p)

-- the heap without the object that allocate gave the number for
unfoldable pub without : Heap → ℕ → Heap
without [] p = []
without (o ∷ os) p = cond (eqb o.answer p) os (o ∷ without os p)

-- the objects that pass a test, in their order
unfoldable pub passing : (Object → Bool) → Heap → Heap
passing test [] = []
passing test (o ∷ os) = cond (test o) (o ∷ passing test os) (passing test os)

-- the objects of a cue
abbrev pub of_cue : Heap → ℕ → Heap
of_cue heap cue = passing (λ o. eqb o.cue cue) heap

-- the heap without them
abbrev pub without_cue : Heap → ℕ → Heap
without_cue heap cue = passing (λ o. not (eqb o.cue cue)) heap

-- n bytes written through a pointer of the object, where they all lie inside it
unfoldable pub write : Option Object → ℕ → ℕ → List ℕ → Heap → Heap
write None p n bytes heap = heap
write (Some o) p n bytes heap = cond (inside o p n) (change (written p bytes) heap p) heap

-- n bytes of the source's object written through the target, where both lie inside their objects
unfoldable pub copied : Option Object → ℕ → ℕ → ℕ → Heap → Heap
copied None t p n heap = heap
copied (Some o) t p n heap = cond (inside o p n) (write (owner_of heap t) t n (bytes_at o p n) heap) heap

-- the text in the object's bytes from the pointer's address on
abbrev pub text_in : Object → ℕ → Option ℕ
text_in o p = text_of (drop (offset o p) o.bytes)

-- a text written through the target, as a copy of its length plus one bytes; no change where no zero byte ends it
unfoldable pub copied_text : Option ℕ → Option Object → ℕ → ℕ → Heap → Heap
copied_text (Some n) o t p heap = copied o t p (n + 1) heap
copied_text None o t p heap = heap

-- the text of the source's object written through the target
unfoldable pub text_copied : Option Object → ℕ → ℕ → Heap → Heap
text_copied None t p heap = heap
text_copied (Some o) t p heap = copied_text (text_in o p) (Some o) t p heap

-- an answer that says accepted
abbrev pub accepted : Answer → Bool
accepted a = eqb (returned a) 0

-- What the heap becomes by a call and its answer. Only the answers of allocate and move are looked at.
unfoldable pub hear : Heap → Call → Answer → Heap
hear heap (allocates size type) a = cond (accepted a) (heap ++ (new_object (value a) size 0 ∷ [])) heap
hear heap (frees p) a = without heap p
hear heap (moves p d) a = cond (accepted a) (change (pointed (value a)) heap p) heap
hear heap (loads p width) a = heap
hear heap (stores p width v) a =
    cond (good_width width && ltb v (256 ^ width)) (write (owner_of heap p) p width (encode width v) heap) heap
hear heap (fills p n byte) a = cond (ltb 0 n) (write (owner_of heap p) p n (replicate n byte) heap) heap
hear heap (copies t p n) a = cond (ltb 0 n) (copied (owner_of heap p) t p n heap) heap
hear heap (copies_text t p) a = text_copied (owner_of heap p) t p heap
hear heap (allocates_for size type cue) a = cond (accepted a) (heap ++ (new_object (value a) size cue ∷ [])) heap
hear heap (releases cue) a = without_cue heap cue

-- the calls whose answers it looks at
abbrev pub heard : Call → Bool
heard (allocates size type) = true
heard (frees p) = false
heard (moves p d) = true
heard (loads p width) = false
heard (stores p width v) = false
heard (fills p n byte) = false
heard (copies t p n) = false
heard (copies_text t p) = false
heard (allocates_for size type cue) = true
heard (releases cue) = false

-- The heap takes nothing from any other call's answer.
unfoldable pub HearsNoOther : Type 0
HearsNoOther = (heap : Heap) (c : Call) (a a' : Answer) → heard c ≡ false → hear heap c a ≡ hear heap c a'
