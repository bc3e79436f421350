-- What each call answers and leaves: document 01, "Calls" and "Why a call was declined", and document 02. The order of the rows is the order of the
-- tests. Assumes nothing.
use Rattle.store.specs.State.{measured_as}
use Rattle.std.specs.Prelude.{ℕ, ◌+◌, ◌-◌, ◌^◌, Bool, true, cond, ◌&&◌, ◌||◌, List, [], ◌∷◌, ◌++◌, length, take, drop, get_or, set, replicate, leb, ltb, eqb, ℤ, pos, negsuc, Err, None, Ok, Option, Result, Some}
use Rattle.std.proofs.Math.IntN.{sub_ℕ}
use Rattle.frame.specs.Frame.{frame_start, same_frame}
use Rattle.frame.specs.Pointers.{unpack, pack, good_tag, reach, moved}
use Rattle.frame.specs.Tags.{is_small, pointer_to, tag_matches, used_entries, entry_at, entry_of}
use Rattle.frame.specs.declared.parts.Pointer.{Pointer}
use Rattle.block.specs.Bytes.{encode, field, put}
use Rattle.block.specs.Order.{compare_bytes}
use Rattle.block.specs.Text.{text_of}
use Rattle.block.specs.Layout.{within, superblock, superblock_good, slot_exponent, stored_total, with_total, good_exponent, good_length, free_header, live_header, sound, is_free, is_live, extent_at, type_at, size_at}
use Rattle.block.specs.Walk.{Walked, stopped, unsound, ended, first_fit, walk_to, count_blocks, walk_cue}
use Rattle.block.specs.declared.walk.Fit.{Fit}
use Rattle.block.specs.declared.walk.Fit.TheVariants as fit
use Rattle.block.specs.declared.walk.Counts.{Counts}
use Rattle.descriptors.specs.Descriptors.{look_up, good_list}
use Rattle.descriptors.specs.Descriptors as descriptors
use Rattle.descriptors.specs.Layouts.{type_has}
use Rattle.store.specs.State.{State, Outcome, outcome, demand, and_then, refuse, conclude}
use Rattle.store.specs.declared.answer.Refusal.TheVariants.{BadExponent, BadLength, TooFewEntries, BadSuperblock, ShortTable, Empty, Unsound, NoSpace, EntryTaken, BadTag, Dangling, Leaves, OutOfBounds, BadWidth, NotBase, TooLarge, Unterminated, EntryLost, WrongTotal, BadDescriptor, Undescribed}
use Rattle.store.specs.State.{Answer}
use Rattle.store.specs.declared.locate.Reading.{Reading}
use Rattle.store.specs.declared.release.FreedBlock.{FreedBlock}
use Rattle.store.specs.declared.answer.Refusal.{Refusal}
use Rattle.store.specs.State.{Usage, Comparison, Measurement}

-- Set-up: 1, 2, 3.

-- its tests; the number is 0
unfoldable pub set_up_checks : ℕ → State → Answer
set_up_checks s x =
    demand (good_exponent s) BadExponent
    (demand (good_length (length x.image)) BadLength
    (demand (leb (used_entries s (length x.image)) (length x.table)) TooFewEntries (Ok 0)))

-- a fresh image: the superblock, with all bytes behind it free, and one free block of zeros
unfoldable pub fresh : ℕ → ℕ → List ℕ
fresh s L = superblock s L (L - 16) ++ (free_header (L - 16) ++ replicate (L - 32) 0)

-- the table with the used entries of an image of L bytes zero
abbrev pub cleared : ℕ → ℕ → List ℕ → List ℕ
cleared s L table = replicate (used_entries s L) 0 ++ drop (used_entries s L) table

-- its outcome: the fresh image, and the used table entries zero
unfoldable pub set_up : ℕ → State → Outcome
set_up s x =
    conclude x (set_up_checks s x) λ v.
    outcome (Ok 0) (fresh s (length x.image)) (cleared s (length x.image) x.table)

-- Every other call begins with 4, 5; the number is the slot exponent.
unfoldable pub opening : State → Answer
opening x =
    demand (superblock_good x.image) BadSuperblock
    (demand (leb (used_entries (slot_exponent x.image) (length x.image)) (length x.table)) ShortTable
    (Ok (slot_exponent x.image)))

-- Allocate, for a cue or for none: 7 or 8 as the walk ends, 9 where the new object's entry is not zero, 22. The size may be 0.

-- whether the object at h needs no table entry, or its entry holds v
unfoldable pub entry_holds : ℕ → ℕ → ℕ → ℕ → List ℕ → Bool
entry_holds s h size v table = is_small s h size || eqb (get_or table (entry_of s h size) 0) v

-- what follows where first fit finds a block
unfoldable pub fit_answer : Fit → (ℕ → Answer) → Answer
fit_answer (fit.At h) next = next h
fit_answer (fit.Unsound h) next = Err Unsound
fit_answer fit.End next = Err NoSpace

-- the extent of a live block in the free one at h: all of that where a rest would be under 16 bytes
unfoldable pub taken_extent : List ℕ → ℕ → ℕ → ℕ
taken_extent image h size = cond (ltb (extent_at image h - (16 + size)) 16) (extent_at image h) (16 + size)

-- its tests; the number is the place of the block that is taken. 22: the free total would go below zero
unfoldable pub allocate_checks : ℕ → State → Answer
allocate_checks size x =
    and_then (opening x) λ s.
    fit_answer (first_fit x.image (16 + size)) λ h.
    demand (entry_holds s h size 0 x.table) EntryTaken
    (demand (leb (taken_extent x.image h size) (stored_total x.image)) WrongTotal (Ok h))

-- the image with a live block in the free one at h; a rest of 16 bytes or more becomes a free block
unfoldable pub carved : List ℕ → ℕ → ℕ → ℕ → ℕ → List ℕ
carved image h size type cue =
    let need : ℕ = 16 + size in
    let extent : ℕ = extent_at image h in
    cond (ltb (extent - need) 16) (put image h (live_header extent type size cue))
    (put (put image h (live_header need type size cue)) (h + need) (free_header (extent - need)))

-- the table with the entry of the object at h set, where it is large-framed
unfoldable pub noted : ℕ → ℕ → ℕ → ℕ → List ℕ → List ℕ
noted s h size entry table = cond (is_small s h size) table (set table (entry_of s h size) entry)

-- the image that it leaves: the live block, its extent taken from the free total
abbrev pub allotted : List ℕ → ℕ → ℕ → ℕ → ℕ → List ℕ
allotted image h size type cue = with_total (carved image h size type cue) (stored_total image - taken_extent image h size)

-- its outcome: the tagged base
unfoldable pub allocate_for : ℕ → ℕ → ℕ → State → Outcome
allocate_for size type cue x =
    let s : ℕ = slot_exponent x.image in
    conclude x (allocate_checks size x) λ h.
    outcome (Ok (pack (pointer_to s h size))) (allotted x.image h size type cue) (noted s h size h x.table)

-- the call that takes no cue stores 0
abbrev pub allocate : ℕ → ℕ → State → Outcome
allocate size type x = allocate_for size type 0 x

-- Reading a tag: 10, 11; the number is the header's place.

-- the place that the tag leads to, before it is looked at
unfoldable pub header_place : ℕ → Pointer → List ℕ → ℕ
header_place s p table =
    cond p.flag (frame_start s p.address + p.tag) (get_or table (entry_at s p.tag p.address) 0)

-- a sound and live header stands there, with that very flag and tag number, in the address's slot or frame; none does where an entry is zero
unfoldable pub verified : ℕ → Pointer → List ℕ → ℕ → Bool
verified s p image h =
    sound image h && (is_live image h && (tag_matches s h (size_at image h) p && same_frame (reach s p) h p.address))

-- the slot or frame starts in the image, and the header that the tag leads to is verified
unfoldable pub leads_back : ℕ → Pointer → State → Bool
leads_back s p x =
    ltb (frame_start (reach s p) p.address) (length x.image) && verified s p x.image (header_place s p x.table)

-- the tests of a tag
unfoldable pub located : ℕ → Pointer → State → Answer
located s p x =
    demand (good_tag s p) BadTag (demand (leads_back s p x) Dangling (Ok (header_place s p x.table)))

-- The tag reader's promise: the object, and how far the pointer's address is from both its ends.

-- the address less the base of the object at h: negative before it
unfoldable pub from_start : ℕ → Pointer → ℤ
from_start h p = sub_ℕ p.address (h + 16)

-- the end of the body of an object of `size` bytes at h less the address: negative past it
unfoldable pub to_end : ℕ → ℕ → Pointer → ℤ
to_end h size p = sub_ℕ (h + 16 + size) p.address

-- what is read of a pointer to that object
abbrev pub reading : ℕ → ℕ → Pointer → Reading
reading h size p = record { header = h; base = h + 16; size = size; offset = from_start h p; remaining = to_end h size p }

-- what follows where the tests of a tag are passed
unfoldable pub found_at : Answer → List ℕ → Pointer → Result Reading Refusal
found_at (Ok h) image p = Ok (reading h (size_at image h) p)
found_at (Err r) image p = Err r

-- what reading a tag answers
unfoldable pub read_tag : ℕ → Pointer → State → Result Reading Refusal
read_tag s p x = found_at (located s p x) x.image p

-- 13: n bytes from the pointer's address on lie in the body of the object at h
unfoldable pub in_body : List ℕ → ℕ → Pointer → ℕ → Bool
in_body image h p n = leb (h + 16) p.address && leb (p.address + n) (h + 16 + size_at image h)

-- n bytes through a pointer: 10, 11, 13; the number is the address
unfoldable pub accessed : ℕ → Pointer → ℕ → State → Answer
accessed s p n x = and_then (located s p x) λ h. demand (in_body x.image h p n) OutOfBounds (Ok p.address)

-- Distances: 10, 11. Outside the body, too: no 13.

-- its tests; the number is the header's place
unfoldable pub distances_checks : ℕ → State → Answer
distances_checks word x = and_then (opening x) λ s. located s (unpack word) x

-- what follows where they are passed
unfoldable pub distances_at : Answer → List ℕ → Pointer → Measurement
distances_at (Ok h) image p = measured_as (from_start h p) (to_end h (size_at image h) p)
distances_at (Err r) image p = Err r

-- its answer: how far the pointer is from the start and from the end of its object's body
unfoldable pub distances : ℕ → State → Measurement
distances word x = distances_at (distances_checks word x) x.image (unpack word)

-- Type check before a cast: 24, 10, 11, 25. A list of type descriptors is lent too, and only read.

-- 25: the descriptor that was found describes no more bytes than an object of `size` has; the number is its position
unfoldable pub described_by : List ℕ → ℕ → Option ℕ → Answer
described_by list size (Some q) = demand (leb (descriptors.size_at list q) size) Undescribed (Ok q)
described_by list size None = Err Undescribed

-- 25, for an object of that type and raw size
unfoldable pub described : List ℕ → ℕ → ℕ → Answer
described list type size = described_by list size (look_up list (length list) type)

-- whether the type described at q has the wanted one at a distance from the base, 1 for yes and 0 for no: before the base it has nothing
unfoldable pub has_at : List ℕ → ℕ → ℕ → ℤ → ℕ
has_at list wanted q (pos o) = cond (type_has list wanted q o) 1 0
has_at list wanted q (negsuc n) = 0

-- what follows where the object has that type and raw size, and the pointer is at that distance from its base
unfoldable pub cast_answer : List ℕ → ℕ → ℕ → ℕ → ℤ → Answer
cast_answer list wanted type size distance = and_then (described list type size) λ q. Ok (has_at list wanted q distance)

-- its answer: whether the object's type has the wanted one at the pointer's distance from the base
unfoldable pub has_type : List ℕ → ℕ → ℕ → State → Answer
has_type list word wanted x =
    and_then (opening x) λ s.
    demand (good_list list) BadDescriptor
    (and_then (located s (unpack word) x) λ h.
    cast_answer list wanted (type_at x.image h) (size_at x.image h) (from_start h (unpack word)))

-- Move: 10, 12.

-- what a move comes to
unfoldable pub moved_answer : Option Pointer → Answer
moved_answer (Some q) = Ok (pack q)
moved_answer None = Err Leaves

-- a pointer moved by a distance: 10, 12
abbrev pub moved_by : ℕ → Pointer → ℤ → Answer
moved_by s p d = demand (good_tag s p) BadTag (moved_answer (moved p (reach s p) d))

-- its answer: the pointer there
unfoldable pub move_answer : ℕ → ℤ → State → Answer
move_answer word d x = and_then (opening x) λ s. moved_by s (unpack word) d

-- its outcome: nothing is written
unfoldable pub move : ℕ → ℤ → State → Outcome
move word d x = record { answer = move_answer word d x; after = x }

-- Load: 14, 10, 11, 13.

-- 14: the widths that a load or store may have, 1 to 8 bytes
abbrev pub good_width : ℕ → Bool
good_width w = within 1 8 w

-- its answer: the number in the bytes, little-endian
unfoldable pub load_answer : ℕ → ℕ → State → Answer
load_answer word width x =
    and_then (opening x) λ s.
    demand (good_width width) BadWidth
    (and_then (accessed s (unpack word) width x) λ a. Ok (field x.image a width))

-- its outcome: nothing is written
unfoldable pub load : ℕ → ℕ → State → Outcome
load word width x = record { answer = load_answer word width x; after = x }

-- Store: 14, 16, 10, 11, 13.

-- its tests; the number is the address
unfoldable pub store_checks : ℕ → ℕ → ℕ → State → Answer
store_checks word width v x =
    and_then (opening x) λ s.
    demand (good_width width) BadWidth (demand (ltb v (256 ^ width)) TooLarge (accessed s (unpack word) width x))

-- its outcome: the value in the bytes, little-endian
unfoldable pub store : ℕ → ℕ → ℕ → State → Outcome
store word width v x =
    conclude x (store_checks word width v x) λ a. outcome (Ok 0) (put x.image a (encode width v)) x.table

-- Fill: 6, 10, 11, 13.

-- its tests; the number is the address
unfoldable pub fill_checks : ℕ → ℕ → State → Answer
fill_checks word n x = and_then (opening x) λ s. demand (ltb 0 n) Empty (accessed s (unpack word) n x)

-- its outcome: one value in all the bytes
unfoldable pub fill : ℕ → ℕ → ℕ → State → Outcome
fill word n byte x =
    conclude x (fill_checks word n x) λ a. outcome (Ok 0) (put x.image a (replicate n byte)) x.table

-- Copy: 6, the target's 10, 11, 13, the source's.

-- its tests; the number is the source's address
unfoldable pub copy_checks : ℕ → ℕ → ℕ → State → Answer
copy_checks target source n x =
    and_then (opening x) λ s.
    demand (ltb 0 n) Empty (and_then (accessed s (unpack target) n x) λ a. accessed s (unpack source) n x)

-- its outcome: the source's bytes as they stood before
unfoldable pub copy : ℕ → ℕ → ℕ → State → Outcome
copy target source n x =
    conclude x (copy_checks target source n x) λ a.
    outcome (Ok 0) (put x.image (unpack target).address (take n (drop a x.image))) x.table

-- Compare: 6, the left's 10, 11, 13, the right's, which are copy's tests of the two.

-- what follows where they are passed, on the right's address
unfoldable pub compared : Answer → List ℕ → ℕ → ℕ → Comparison
compared (Ok b) image a n = Ok (compare_bytes (take n (drop a image)) (take n (drop b image)))
compared (Err r) image a n = Err r

-- its answer: how the left's bytes stand to the right's
unfoldable pub compare : ℕ → ℕ → ℕ → State → Comparison
compare left right n x = compared (copy_checks left right n x) x.image (unpack left).address n

-- Text copy: the source's 10, 11, 13 (its first byte), 20, the target's 10, 11, 13 (all bytes).

-- 20: a zero byte ends the text; the number is its length, without that byte
unfoldable pub text_answer : Option ℕ → Answer
text_answer (Some n) = Ok n
text_answer None = Err Unterminated

-- the bytes of the object at h, from the pointer's address to the end of the body
abbrev pub body_from : List ℕ → ℕ → Pointer → List ℕ
body_from image h p = take (h + 16 + size_at image h - p.address) (drop p.address image)

-- the text at a pointer: 10, 11, 13 for its first byte, 20
unfoldable pub text_at : ℕ → Pointer → State → Answer
text_at s p x =
    and_then (located s p x) λ h. demand (in_body x.image h p 1) OutOfBounds (text_answer (text_of (body_from x.image h p)))

-- its tests; the number is how many bytes are copied: the text's length plus one
unfoldable pub copy_text_checks : ℕ → ℕ → State → Answer
copy_text_checks target source x =
    and_then (opening x) λ s.
    and_then (text_at s (unpack source) x) λ n. and_then (accessed s (unpack target) (n + 1) x) λ a. Ok (n + 1)

-- its outcome: the source's text and its zero byte, as they stood before, and how many bytes these are
unfoldable pub copy_text : ℕ → ℕ → State → Outcome
copy_text target source x =
    conclude x (copy_text_checks target source x) λ n.
    outcome (Ok n) (put x.image (unpack target).address (take n (drop (unpack source).address x.image))) x.table

-- Free: 10, 11, 15, 7, 22.

-- where the merged block starts: at the block before h, where there is one (not 0) and it is free
unfoldable pub merge_start : List ℕ → ℕ → ℕ → ℕ
merge_start image before h = cond (ltb 0 before && is_free image before) before h

-- where the merged block ends: behind the block at `next`, where that is below the image's end and free
unfoldable pub merge_end : List ℕ → ℕ → ℕ
merge_end image next = cond (ltb next (length image) && is_free image next) (next + extent_at image next) next

-- the image with one free block from `from` to `to`, all else in it zero
unfoldable pub merged : List ℕ → ℕ → ℕ → List ℕ
merged image from to = put image from (free_header (to - from) ++ replicate (to - from - 16) 0)

-- its tests up to 15; the number is the header's place
unfoldable pub free_checks : ℕ → State → Answer
free_checks word x =
    and_then (opening x) λ s.
    and_then (located s (unpack word) x) λ h. demand (eqb (unpack word).address (h + 16)) NotBase (Ok h)

-- the object's header place, and from where to where the free block reaches
abbrev pub merge_of : ℕ → ℕ → ℕ → Result FreedBlock Refusal
merge_of h from to = Ok (record { header = h; from = from; to = to })

-- 7: the walk meets h, and the next header, below the image's end, is sound; then what is merged
unfoldable pub released : List ℕ → ℕ → Option ℕ → Result FreedBlock Refusal
released image h (Some before) =
    let next : ℕ = h + extent_at image h in
    cond (leb (length image) next || sound image next) (merge_of h (merge_start image before h) (merge_end image next)) (Err Unsound)
released image h None = Err Unsound

-- 7, on the number that the tests up to 15 found
unfoldable pub released_at : Answer → List ℕ → Result FreedBlock Refusal
released_at (Ok h) image = released image h (walk_to image h)
released_at (Err r) image = Err r

-- 22: with n bytes given back, the free total is not above all bytes behind the superblock
unfoldable pub total_fits : List ℕ → ℕ → Bool
total_fits image n = leb (stored_total image + n) (length image - 16)

-- 22, where 7 is passed: the object's extent is given back
unfoldable pub totalled : Result FreedBlock Refusal → List ℕ → Result FreedBlock Refusal
totalled (Ok m) image = cond (total_fits image (extent_at image m.header)) (Ok m) (Err WrongTotal)
totalled (Err r) image = Err r

-- all its tests
unfoldable pub free_release : ℕ → State → Result FreedBlock Refusal
free_release word x = totalled (released_at (free_checks word x) x.image) x.image

-- the image that it leaves: one free block, the object's own extent given back to the free total
abbrev pub given_back : List ℕ → ℕ → ℕ → ℕ → List ℕ
given_back image h from to = with_total (merged image from to) (stored_total image + extent_at image h)

-- what the release of an object leaves
unfoldable pub freed : Result FreedBlock Refusal → State → Outcome
freed (Ok m) x =
    let h : ℕ = m.header in
    outcome (Ok 0) (given_back x.image h m.from m.to) (noted (slot_exponent x.image) h (size_at x.image h) 0 x.table)
freed (Err r) x = refuse r x

-- its outcome
unfoldable pub free : ℕ → State → Outcome
free word x = freed (free_release word x) x

-- Release, the end of a cue: 7 in a walk over the whole image, 21, 22.

-- 7: what follows where no header is unsound, on the places of the cue's objects; the walk never stops before the end
unfoldable pub gathered_answer : Walked (List ℕ) → (List ℕ → Answer) → Answer
gathered_answer (stopped places h) next = Err Unsound
gathered_answer (unsound h) next = Err Unsound
gathered_answer (ended places) next = next places

-- those places
unfoldable pub places_of : Walked (List ℕ) → List ℕ
places_of (stopped places h) = []
places_of (unsound h) = []
places_of (ended places) = places

-- 21: each of these objects needs no table entry, or its entry holds its place
unfoldable pub all_held : ℕ → List ℕ → State → Bool
all_held s [] x = true
all_held s (h ∷ hs) x = entry_holds s h (size_at x.image h) h x.table && all_held s hs x

-- the sum of their extents
unfoldable pub extents_of : List ℕ → List ℕ → ℕ
extents_of image [] = 0
extents_of image (h ∷ hs) = extent_at image h + extents_of image hs

-- its tests; the number is how many objects the cue has. 22 is asked where it has none, too
unfoldable pub release_checks : ℕ → State → Answer
release_checks cue x =
    and_then (opening x) λ s.
    gathered_answer (walk_cue cue x.image) λ places.
    demand (all_held s places x) EntryLost
    (demand (total_fits x.image (extents_of x.image places)) WrongTotal (Ok (length places)))

-- the tagged bases of the objects at these places
unfoldable pub pointers_to : ℕ → List ℕ → List ℕ → List ℕ
pointers_to s image [] = []
pointers_to s image (h ∷ hs) = pack (pointer_to s h (size_at image h)) ∷ pointers_to s image hs

-- the tagged bases of the cue's objects, in the order of their addresses
unfoldable pub cue_pointers : ℕ → List ℕ → List ℕ
cue_pointers cue image = pointers_to (slot_exponent image) image (places_of (walk_cue cue image))

-- what freeing by these pointers leaves, singly and in their order
unfoldable pub free_each : List ℕ → State → State
free_each [] x = x
free_each (p ∷ ps) x = free_each ps (free p x).after

-- its outcome: how many objects the cue had; image and table are those of freeing them singly in address order
unfoldable pub release_cue : ℕ → State → Outcome
release_cue cue x =
    conclude x (release_checks cue x) λ n. record { answer = Ok n; after = free_each (cue_pointers cue x.image) x }

-- Free total: no further row.

-- its answer: the number in the superblock, as it stands there
unfoldable pub free_total : State → Answer
free_total x = and_then (opening x) λ s. Ok (stored_total x.image)

-- Tally, the memory in use: 7; live objects, live bytes (the sum of their raw sizes), free bytes (the sum of the extents of free blocks) and overhead
-- bytes (16 for each live header, and each live extent's bytes beyond header and size).

-- what follows where 4 and 5 are passed
unfoldable pub tally_opened : Answer → Usage → Usage
tally_opened (Ok s) next = next
tally_opened (Err r) next = Err r

-- 7: what a count of the blocks comes to
unfoldable pub tally_counted : Option Counts → Usage
tally_counted (Some c) = Ok c
tally_counted None = Err Unsound

-- its answer
unfoldable pub tally : State → Usage
tally x = tally_opened (opening x) (tally_counted (count_blocks x.image))
