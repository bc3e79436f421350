-- The marked cases of document 01, "Arithmetic by example", and those of document 02's requests, at the slot exponent 6: one theorem over one list, by
-- computation. Assumes nothing.
use Rattle.std.specs.Prelude.{ℕ, ◌+◌, ◌-◌, ◌^◌, ◌≡◌, refl, Bool, true, false, cond, not, ◌&&◌, List, [], ◌∷◌, ◌++◌, T, eqb, take, replicate, get_or, set, ℤ, pos, negsuc, Err, Ok, Result}
use Rattle.std.proofs.Common.{sym, ap, ◌∙◌, arith}
use Rattle.std.specs.Int.Signed.{le_z}
use Rattle.frame.specs.Frame.{frame_number, frame_number_in}
use Rattle.frame.specs.Pointers.{unpack, pack, good_tag, reach, landed, moved}
use Rattle.frame.specs.Tags.{last_held, wrapper, is_small, tag_number, pointer_to, tag_matches, used_entries, entry_at, entry_of}
use Rattle.block.specs.Bytes.{encode, decode, field, put}
use Rattle.block.specs.Order.{compare_bytes}
use Rattle.block.specs.Text.{text_from, text_of}
use Rattle.block.specs.Layout.{superblock, with_total, superblock_good, header, header_at, well_formed, sound, is_free, extent_at, type_at, size_at}
use Rattle.block.specs.Walk.{Search, walk_in, walk_from, walk, fit_of, first_fit, met_of, walk_to, count_of, count_blocks, walk_cue}
use Rattle.descriptors.specs.Descriptors.{descriptor_at, field_at, look_up_in, look_up, field_end, good_fields_in, good_descriptor, good_from_in, good_list}
use Rattle.descriptors.specs.Layouts.{any_below, field_has, type_has_in, type_has}
use Rattle.descriptors.specs.Claims.{first, no_size, SomeBad}
use Rattle.descriptors.specs.Examples.{descriptor, plain, at, winch}
use Rattle.store.specs.State.{State, state, Outcome, returned, value, comparison_number, comparison_value, distances_number, start_distance, end_distance, usage_number, live_objects, live_bytes, free_bytes, overhead_bytes}
use Rattle.store.specs.Calls.{set_up_checks, fresh, set_up, opening, entry_holds, fit_answer, taken_extent, allocate_checks, carved, noted, allocate_for, allocate, header_place, verified, leads_back, located, from_start, to_end, found_at, read_tag, in_body, accessed, distances_checks, distances_at, distances, described_by, described, has_at, cast_answer, has_type, moved_answer, move_answer, move, load_answer, load, store_checks, store, fill_checks, fill, copy_checks, copy, compared, compare, text_answer, text_at, copy_text_checks, copy_text, merge_end, merge_start, released, free_checks, released_at, total_fits, totalled, free_release, merged, freed, free, gathered_answer, places_of, all_held, extents_of, release_checks, pointers_to, cue_pointers, free_each, release_cue, free_total, tally_opened, tally_counted, tally}
use Rattle.store.specs.Claims.{RefusalsKeep, Castable, HasWanted, Undescribes, ChecksCasts}
use Rattle.store.specs.Step as call
use Rattle.store.specs.declared.answer.Refusal.TheVariants.{BadSuperblock, BadTag, Undescribed}
use Rattle.store.specs.State.{Answer}
use Rattle.store.specs.declared.locate.Reading.{Reading}
use Rattle.store.specs.declared.answer.Refusal.{Refusal}
use Rattle.store.specs.State.{Usage, Comparison, Measurement}

-- A case: what it starts from, and what the documents say of it. An image of L bytes is set up, and the sizes `before` are allocated.
pub data Case : Type 0 where
  -- a further object of that size: its header place, its e, its wrapper frame's exponent N, its pointer
  object : (L : ℕ) (before : List ℕ) (size h e N pointer : ℕ) → Case
  -- it is small-framed (true) or large-framed
  framed : (L : ℕ) (before : List ℕ) (size : ℕ) (small : Bool) → Case
  -- it is large-framed, and its table entry holds its header place
  entry : (L : ℕ) (before : List ℕ) (size index h : ℕ) → Case
  -- it takes that extent
  takes : (L : ℕ) (before : List ℕ) (size extent : ℕ) → Case
  -- it leaves a free block of that extent at that place
  leaves : (L : ℕ) (before : List ℕ) (size place extent : ℕ) → Case
  -- it is refused with that number
  declined : (L : ℕ) (before : List ℕ) (size number : ℕ) → Case
  -- a pointer moved by a distance: the returned number, and the value
  moves : (L : ℕ) (before : List ℕ) (pointer : ℕ) (distance : ℤ) (number value : ℕ) → Case
  -- W1: a store, then a load of that width through the same pointer: the returned number of each, and the loaded value
  accesses : (L : ℕ) (before : List ℕ) (pointer width v stored loaded value : ℕ) → Case
  -- W3: what tally counts
  tallies : (L : ℕ) (before : List ℕ) (objects live free overhead : ℕ) → Case
  -- W3: with another byte at that place tally is refused by 7, and gives zeros
  damages : (L : ℕ) (before : List ℕ) (at byte : ℕ) → Case
  -- W5: bytes are stored from a pointer on; then two runs are compared: the returned number, and the value
  compares : (L : ℕ) (before : List ℕ) (p : ℕ) (bytes : List ℕ) (left right n number : ℕ) (value : ℤ) → Case
  -- W5: the same, and a text is copied: the returned number, how many bytes, and what the 8 bytes from the target's address on are then, little-endian
  texts : (L : ℕ) (before : List ℕ) (p : ℕ) (bytes : List ℕ) (target source number copied seen : ℕ) → Case
  -- W6: objects of these sizes and cues; the cues `gone` are released, a table entry is set to v, and a cue is released: the returned number, how many
  -- objects, the kind and extent of each block that is left, and the first two table entries
  releases : (L : ℕ) (sizes cues gone : List ℕ) (index v cue number count : ℕ) (blocks entries : List ℕ) → Case
  -- W6: with another table entry and another byte the release returns that number, gives 0, and leaves image and table as they are
  keeps : (L : ℕ) (sizes cues : List ℕ) (index v at byte cue number : ℕ) → Case
  -- W7: what free total gives
  totals : (L : ℕ) (before : List ℕ) (total : ℕ) → Case
  -- W7: free total with so many table entries: the returned number, and the value
  lends : (L entries number value : ℕ) → Case
  -- W7: objects of these sizes and cues; with another free total, table entry and byte a call returns that number, and free total gives `left` then; a
  -- refusal leaves image and table as they are
  retotals : (L : ℕ) (sizes cues : List ℕ) (total index v at byte : ℕ) (c : call.Call) (number left : ℕ) → Case
  -- W8: with so many table entries and another byte, the distances of a pointer: the returned number, and both values
  measures : (L : ℕ) (before : List ℕ) (entries at byte pointer number : ℕ) (start end : ℤ) → Case
  -- W8: what the tag of a pointer is read as
  reads : (L : ℕ) (before : List ℕ) (pointer header base size : ℕ) (offset remaining : ℤ) → Case
  -- W12: a further object of that size and type; with so many table entries and another byte, the type check of a pointer: the returned number, and the value
  casts : (L : ℕ) (before : List ℕ) (size type entries place byte : ℕ) (list : List ℕ) (pointer wanted number value : ℕ) → Case

-- a store set up on an image and table that were full of other bytes
abbrev begun : ℕ → State
begun L = (set_up 6 (state (replicate L 7) (replicate 400 9))).after

abbrev placed : List ℕ → State → State
placed [] x = x
placed (size ∷ sizes) x = placed sizes (allocate size 0 x).after

-- objects of these sizes and cues; those of cue 0 by the call without a cue
abbrev placed_for : List ℕ → List ℕ → State → State
placed_for [] cues x = x
placed_for (size ∷ sizes) [] x = x
placed_for (size ∷ sizes) (cue ∷ cues) x = placed_for sizes cues (cond (eqb cue 0) (allocate size 0 x) (allocate_for size 0 cue x)).after

-- these cues are released, one after the other
abbrev released_all : List ℕ → State → State
released_all [] x = x
released_all (cue ∷ cues) x = released_all cues (release_cue cue x).after

-- the kind and extent of each block, in the order of their addresses
abbrev kinds_and_extents : Search (List ℕ)
kinds_and_extents = record { stops = λ h d. false; passes = λ a h d. a ++ (d.kind ∷ d.extent ∷ []) }

-- two lists of numbers are one
abbrev same_numbers : List ℕ → List ℕ → Bool
same_numbers [] [] = true
same_numbers [] (n ∷ ns) = false
same_numbers (m ∷ ms) [] = false
same_numbers (m ∷ ms) (n ∷ ns) = eqb m n && same_numbers ms ns

-- bytes stored one by one, from a pointer on
abbrev stored_from : ℕ → List ℕ → State → State
stored_from p [] x = x
stored_from p (b ∷ bs) x = stored_from (p + 1) bs (store p 1 b x).after

-- the outcome of one allocation more
abbrev further : ℕ → List ℕ → ℕ → Outcome
further L before size = allocate size 0 (placed before (begun L))

-- the header place of the object that it gives
abbrev given : Outcome → ℕ
given o = (unpack (value o.answer)).address - 16

-- tally returns that number and these counts
abbrev gives : Usage → ℕ → ℕ → ℕ → ℕ → ℕ → Bool
gives u number objects live free overhead =
    eqb (usage_number u) number
    && (eqb (live_objects u) objects && (eqb (live_bytes u) live && (eqb (free_bytes u) free && eqb (overhead_bytes u) overhead)))

-- two signed numbers are one
abbrev equal : ℤ → ℤ → Bool
equal a b = le_z a b && le_z b a

-- the tag reader found that object, and these distances
abbrev finds : Result Reading Refusal → ℕ → ℕ → ℕ → ℤ → ℤ → Bool
finds (Ok o) header base size offset remaining =
    eqb o.header header
    && (eqb o.base base && (eqb o.size size && (equal o.offset offset && equal o.remaining remaining)))
finds (Err r) header base size offset remaining = false

abbrev same : Bool → Bool → Bool
same a b = cond a b (not b)

-- the definitions give what the case says
abbrev pub holds : Case → Bool
holds (object L before size h e N pointer) =
    let o : Outcome = further L before size in
    eqb (returned o.answer) 0
    && (eqb (value o.answer) pointer && (eqb (given o) h && (eqb (last_held (given o) size) e && eqb (wrapper (given o) size) N)))
holds (framed L before size small) = same (is_small 6 (given (further L before size)) size) small
holds (entry L before size index h) =
    let o : Outcome = further L before size in
    same (is_small 6 (given o) size) false && (eqb (entry_of 6 (given o) size) index && (eqb (get_or o.after.table index 0) h && eqb (given o) h))
holds (takes L before size extent) = let o : Outcome = further L before size in eqb (extent_at o.after.image (given o)) extent
holds (leaves L before size place extent) =
    let o : Outcome = further L before size in
    sound o.after.image place && (is_free o.after.image place && eqb (extent_at o.after.image place) extent)
holds (declined L before size number) = eqb (returned (further L before size).answer) number
holds (moves L before pointer d number v) =
    let o : Outcome = move pointer d (placed before (begun L)) in
    eqb (returned o.answer) number && eqb (value o.answer) v
holds (accesses L before pointer width v stored loaded n) =
    let o : Outcome = store pointer width v (placed before (begun L)) in
    let a : Answer = (load pointer width o.after).answer in
    eqb (returned o.answer) stored && (eqb (returned a) loaded && eqb (value a) n)
holds (tallies L before objects live free overhead) = gives (tally (placed before (begun L))) 0 objects live free overhead
holds (damages L before at byte) =
    let x : State = placed before (begun L) in
    gives (tally (state (set x.image at byte) x.table)) 7 0 0 0 0
holds (compares L before p bytes left right n number v) =
    let c : Comparison = compare left right n (stored_from p bytes (placed before (begun L))) in
    eqb (comparison_number c) number && equal (comparison_value c) v
holds (texts L before p bytes target source number copied seen) =
    let o : Outcome = copy_text target source (stored_from p bytes (placed before (begun L))) in
    eqb (returned o.answer) number && (eqb (value o.answer) copied && eqb (field o.after.image (unpack target).address 8) seen)
holds (releases L sizes cues gone index v cue number count blocks entries) =
    let x : State = released_all gone (placed_for sizes cues (begun L)) in
    let o : Outcome = release_cue cue (state x.image (set x.table index v)) in
    eqb (returned o.answer) number
    && (eqb (value o.answer) count
    && (same_numbers (places_of (walk kinds_and_extents o.after.image [])) blocks && same_numbers (take 2 o.after.table) entries))
holds (keeps L sizes cues index v at byte cue number) =
    let x : State = placed_for sizes cues (begun L) in
    let y : State = state (set x.image at byte) (set x.table index v) in
    let o : Outcome = release_cue cue y in
    eqb (returned o.answer) number
    && (eqb (value o.answer) 0 && (same_numbers o.after.image y.image && same_numbers o.after.table y.table))
holds (totals L before total) =
    let a : Answer = free_total (placed before (begun L)) in
    eqb (returned a) 0 && eqb (value a) total
holds (lends L entries number v) =
    let a : Answer = free_total (state (begun L).image (take entries (begun L).table)) in
    eqb (returned a) number && eqb (value a) v
holds (retotals L sizes cues total index v at byte c number left) =
    let x : State = placed_for sizes cues (begun L) in
    let y : State = state (set (with_total x.image total) at byte) (set x.table index v) in
    let o : Outcome = call.step c y in
    eqb (returned o.answer) number
    && (eqb (value (free_total o.after)) left
    && cond (eqb number 0) true (same_numbers o.after.image y.image && same_numbers o.after.table y.table))
holds (measures L before entries at byte pointer number start end) =
    let x : State = placed before (begun L) in
    let m : Measurement = distances pointer (state (set x.image at byte) (take entries x.table)) in
    eqb (distances_number m) number && (equal (start_distance m) start && equal (end_distance m) end)
holds (reads L before pointer header base size offset remaining) =
    finds (read_tag 6 (unpack pointer) (placed before (begun L))) header base size offset remaining
holds (casts L before size type entries place byte list pointer wanted number v) =
    let x : State = (allocate size type (placed before (begun L))).after in
    let a : Answer = has_type list pointer wanted (state (set x.image place byte) (take entries x.table)) in
    eqb (returned a) number && eqb (value a) v

abbrev pub all : List Case → Bool
all [] = true
all (c ∷ cs) = holds c && all cs

-- document 01's four objects, of two cues in turn
abbrev four : List ℕ
four = 10 ∷ 20 ∷ 32 ∷ 1 ∷ []

abbrev in_turn : List ℕ
in_turn = 7 ∷ 9 ∷ 7 ∷ 9 ∷ []

-- a text's letters
abbrev hello : List ℕ
hello = 0x68 ∷ 0x65 ∷ 0x6C ∷ 0x6C ∷ 0x6F ∷ []

abbrev pub cases : List Case
cases =
    object 1024 [] 10 16 42 6 0x8010000000000020
    ∷ object 1024 (10 ∷ []) 20 42 78 7 0x000700000000003A
    ∷ entry 1024 (10 ∷ []) 20 0 42
    ∷ object 1024 (10 ∷ 20 ∷ []) 32 78 126 6 0x800E00000000005E
    ∷ object 1024 (10 ∷ 20 ∷ 32 ∷ []) 1 126 143 8 0x000800000000008E
    ∷ entry 1024 (10 ∷ 20 ∷ 32 ∷ []) 1 1 126
    ∷ object 1024 [] 31 16 63 6 0x8010000000000020
    ∷ framed 1024 [] 31 true
    ∷ object 1024 [] 32 16 64 7 0x0007000000000020
    ∷ framed 1024 [] 32 false
    ∷ moves 1024 (10 ∷ []) 0x8010000000000020 (pos 31) 0 0x801000000000003F
    ∷ moves 1024 (10 ∷ []) 0x8010000000000020 (pos 32) 12 0
    ∷ moves 1024 (10 ∷ []) 0x8010000000000020 (negsuc 31) 0 0x8010000000000000
    ∷ takes 64 [] 16 32
    ∷ leaves 64 [] 16 48 16
    ∷ takes 64 [] 17 48
    ∷ object 64 [] 32 16 64 7 0x0007000000000020
    ∷ declined 64 [] 33 8
    ∷ accesses 1024 (10 ∷ []) 0x8010000000000027 3 0x00FFFFFF 0 0 0x00FFFFFF
    ∷ accesses 1024 (10 ∷ []) 0x8010000000000028 3 0x00FFFFFF 13 13 0
    ∷ accesses 1024 (10 ∷ []) 0x801000000000001F 1 0 13 13 0
    ∷ accesses 1024 (10 ∷ []) 0x801000000000002A 1 0 13 13 0
    ∷ accesses 1024 (10 ∷ []) 0x8010000000000027 3 0x01000000 16 0 0
    ∷ accesses 1024 (10 ∷ []) 0x8010000000000020 0 0 14 14 0
    ∷ accesses 1024 (10 ∷ []) 0x8010000000000020 9 0 14 14 0
    ∷ accesses 1024 (10 ∷ []) 0x8010000000000020 (2 ^ 32) 0 14 14 0
    ∷ accesses 1024 (10 ∷ []) 0x8010000000000020 (2 ^ 64 - 1) 0 14 14 0
    ∷ tallies 1024 [] 0 0 1008 0
    ∷ tallies 1024 (10 ∷ 20 ∷ 32 ∷ 1 ∷ []) 4 63 881 64
    ∷ tallies 64 (16 ∷ []) 1 16 16 16
    ∷ tallies 64 (17 ∷ []) 1 17 0 31
    ∷ tallies 64 (32 ∷ []) 1 32 0 16
    ∷ damages 64 (17 ∷ []) 16 49
    ∷ damages 64 (17 ∷ []) 20 9
    ∷ damages 64 (17 ∷ []) 24 16
    ∷ damages 64 (16 ∷ []) 60 1
    ∷ compares 1024 (10 ∷ []) 0x8010000000000020 (0x7F ∷ 0x80 ∷ []) 0x8010000000000020 0x8010000000000021 1 0 (negsuc 0)
    ∷ compares 1024 (10 ∷ []) 0x8010000000000020 (0x7F ∷ 0x80 ∷ []) 0x8010000000000021 0x8010000000000020 1 0 (pos 1)
    ∷ compares 1024 (10 ∷ []) 0x8010000000000020 (1 ∷ 9 ∷ 2 ∷ 0 ∷ []) 0x8010000000000020 0x8010000000000022 2 0 (negsuc 0)
    ∷ compares 1024 (10 ∷ []) 0x8010000000000020 (1 ∷ 2 ∷ []) 0x8010000000000020 0x8010000000000020 10 0 (pos 0)
    ∷ compares 1024 (10 ∷ 20 ∷ []) 0x8010000000000029 (1 ∷ []) 0x8010000000000020 0x000700000000003A 9 0 (pos 0)
    ∷ compares 1024 (10 ∷ 20 ∷ []) 0x8010000000000029 (1 ∷ []) 0x8010000000000020 0x000700000000003A 10 0 (pos 1)
    ∷ compares 1024 (10 ∷ 20 ∷ []) 0x8010000000000029 (1 ∷ []) 0x8010000000000020 0x000700000000003A 11 13 (pos 0)
    ∷ compares 1024 (10 ∷ 20 ∷ []) 0x8010000000000029 (1 ∷ []) 0x000700000000003A 0x8010000000000020 11 13 (pos 0)
    ∷ compares 1024 (10 ∷ []) 0x8010000000000020 [] 0 0 0 6 (pos 0)
    ∷ compares 1024 (10 ∷ []) 0x8010000000000020 [] 0 0x8010000000000020 1 10 (pos 0)
    ∷ compares 1024 (10 ∷ []) 0x8010000000000020 [] 0x8010000000000020 0 11 13 (pos 0)
    ∷ compares 1024 (10 ∷ []) 0x8010000000000020 [] 0 0x8010000000000020 11 10 (pos 0)
    ∷ texts 1024 (10 ∷ 20 ∷ []) 0x8010000000000020 hello 0x000700000000003A 0x8010000000000020 0 6 0x0000006F6C6C6568
    ∷ texts 1024 (10 ∷ 20 ∷ []) 0x000700000000003A (0xFF ∷ 0xFF ∷ []) 0x000700000000003A 0x8010000000000020 0 1 0xFF00
    ∷ texts 1024 (10 ∷ 20 ∷ []) 0x000700000000003A hello 0x8010000000000024 0x000700000000003A 0 6 0x0024006F6C6C6568
    ∷ texts 1024 (10 ∷ 20 ∷ []) 0x000700000000003A hello 0x8010000000000025 0x000700000000003A 13 0 0x0000240000000000
    ∷ texts 1024 (10 ∷ []) 0x8010000000000020 hello 0x8010000000000022 0x8010000000000020 0 6 0x0000006F6C6C6568
    ∷ texts 1024 (10 ∷ []) 0x8010000000000022 hello 0x8010000000000020 0x8010000000000022 0 6 0x006F006F6C6C6568
    ∷ texts 1024 (10 ∷ []) 0x8010000000000020 hello 0x8010000000000020 0x8010000000000020 0 6 0x0000006F6C6C6568
    ∷ texts 1024 (4 ∷ 20 ∷ []) 0x8010000000000020 (1 ∷ 2 ∷ 3 ∷ 4 ∷ []) 0x0007000000000034 0x8010000000000020 20 0 0
    ∷ texts 1024 (4 ∷ 20 ∷ []) 0x8010000000000020 (1 ∷ 2 ∷ 3 ∷ 4 ∷ []) 0 0x8010000000000020 20 0 0x0006000300000010
    ∷ texts 1024 (4 ∷ 20 ∷ []) 0x8010000000000020 (1 ∷ 2 ∷ 3 ∷ 4 ∷ []) 0x0007000000000034 0x8010000000000024 13 0 0
    ∷ texts 1024 (4 ∷ []) 0x8010000000000020 [] 0 0x8010000000000020 10 0 0x0006000300000010
    ∷ texts 1024 (10 ∷ 20 ∷ []) 0x8010000000000020 hello 0x000700000000003A 0x8010000000000029 0 1 0
    ∷ texts 1024 (10 ∷ []) 0x8010000000000020 hello 0x8010000000000020 0x801000000000001F 13 0 0x0000006F6C6C6568
    ∷ texts 64 (17 ∷ []) 0x8010000000000020 (replicate 17 1) 0x8010000000000020 0x8010000000000020 20 0 0x0101010101010101
    ∷ releases 1024 (10 ∷ 20 ∷ 32 ∷ 1 ∷ []) (7 ∷ 9 ∷ 7 ∷ 9 ∷ []) [] 2 0 7 0 2 (1 ∷ 26 ∷ 2 ∷ 36 ∷ 1 ∷ 48 ∷ 2 ∷ 17 ∷ 1 ∷ 881 ∷ []) (42 ∷ 126 ∷ [])
    ∷ releases 1024 (10 ∷ 20 ∷ 32 ∷ 1 ∷ []) (7 ∷ 9 ∷ 7 ∷ 9 ∷ []) [] 2 0 9 0 2 (2 ∷ 26 ∷ 1 ∷ 36 ∷ 2 ∷ 48 ∷ 1 ∷ 898 ∷ []) (0 ∷ 0 ∷ [])
    ∷ releases 1024 (10 ∷ 20 ∷ 32 ∷ 1 ∷ []) (7 ∷ 9 ∷ 7 ∷ 9 ∷ []) (7 ∷ []) 2 0 9 0 2 (1 ∷ 1008 ∷ []) (0 ∷ 0 ∷ [])
    ∷ releases 1024 (10 ∷ 20 ∷ 32 ∷ 1 ∷ []) (7 ∷ 9 ∷ 7 ∷ 9 ∷ []) [] 2 0 8 0 0 (2 ∷ 26 ∷ 2 ∷ 36 ∷ 2 ∷ 48 ∷ 2 ∷ 17 ∷ 1 ∷ 881 ∷ []) (42 ∷ 126 ∷ [])
    ∷ releases 1024 (10 ∷ 20 ∷ 32 ∷ 1 ∷ []) (0 ∷ 7 ∷ 7 ∷ 0 ∷ []) [] 2 0 7 0 2 (2 ∷ 26 ∷ 1 ∷ 84 ∷ 2 ∷ 17 ∷ 1 ∷ 881 ∷ []) (0 ∷ 126 ∷ [])
    ∷ releases 1024 (10 ∷ 20 ∷ 32 ∷ 1 ∷ []) (0 ∷ 7 ∷ 7 ∷ 0 ∷ []) [] 2 0 0 0 2 (1 ∷ 26 ∷ 2 ∷ 36 ∷ 2 ∷ 48 ∷ 1 ∷ 898 ∷ []) (42 ∷ 0 ∷ [])
    ∷ releases 1024 (10 ∷ 20 ∷ 32 ∷ 1 ∷ []) (9 ∷ 7 ∷ 7 ∷ 0 ∷ []) (9 ∷ []) 2 0 7 0 2 (1 ∷ 110 ∷ 2 ∷ 17 ∷ 1 ∷ 881 ∷ []) (0 ∷ 126 ∷ [])
    ∷ releases 1024 (10 ∷ 20 ∷ 32 ∷ 1 ∷ []) (0 ∷ 0xFFFFFFFF ∷ 0xFFFFFFFF ∷ 0xFFFFFFFF ∷ []) [] 2 0 0xFFFFFFFF 0 3 (2 ∷ 26 ∷ 1 ∷ 982 ∷ []) (0 ∷ 0 ∷ [])
    ∷ releases 1024 (10 ∷ 20 ∷ 32 ∷ 1 ∷ []) (7 ∷ 9 ∷ 7 ∷ 0 ∷ []) [] 0 0 7 0 2 (1 ∷ 26 ∷ 2 ∷ 36 ∷ 1 ∷ 48 ∷ 2 ∷ 17 ∷ 1 ∷ 881 ∷ []) (0 ∷ 126 ∷ [])
    ∷ keeps 1024 (10 ∷ 20 ∷ 32 ∷ []) (7 ∷ 7 ∷ 7 ∷ []) 0 0 0 16 7 21
    ∷ keeps 1024 (10 ∷ 20 ∷ 32 ∷ []) (7 ∷ 7 ∷ 7 ∷ []) 0 78 0 16 7 21
    ∷ keeps 1024 (10 ∷ 20 ∷ 32 ∷ []) (7 ∷ 7 ∷ 7 ∷ []) 0 0 78 1 7 7
    ∷ keeps 1024 (10 ∷ 20 ∷ 32 ∷ []) (7 ∷ 7 ∷ 7 ∷ []) 0 0 130 9 8 7
    ∷ keeps 1024 (10 ∷ 20 ∷ 32 ∷ []) (7 ∷ 9 ∷ 7 ∷ []) 0 0 0 16 8 0
    ∷ keeps 1024 (10 ∷ 20 ∷ 32 ∷ []) (7 ∷ 7 ∷ 7 ∷ []) 0 0 4 0 7 4
    ∷ totals 1024 [] 1008
    ∷ totals 1024 (10 ∷ []) 982
    ∷ totals 1024 (10 ∷ 20 ∷ []) 946
    ∷ totals 1024 (10 ∷ 20 ∷ 32 ∷ []) 898
    ∷ totals 1024 (10 ∷ 20 ∷ 32 ∷ 1 ∷ []) 881
    ∷ totals 64 (16 ∷ []) 16
    ∷ totals 64 (17 ∷ []) 0
    ∷ lends 1024 384 0 1008
    ∷ lends 1024 383 5 0
    ∷ retotals 256 four in_turn 0 2 0 0 16 (call.allocates 10 0) 22 0
    ∷ retotals 256 four in_turn 25 2 0 0 16 (call.allocates 10 0) 22 25
    ∷ retotals 256 four in_turn 26 2 0 0 16 (call.allocates 10 0) 0 0
    ∷ retotals 256 four in_turn 0xFFFFFFFF 2 0 0 16 (call.allocates 10 0) 0 0xFFFFFFE5
    ∷ retotals 256 four in_turn 25 2 0 0 16 (call.allocates_for 10 0 9) 22 25
    ∷ retotals 64 [] [] 47 2 0 0 16 (call.allocates 17 0) 22 47
    ∷ retotals 64 [] [] 48 2 0 0 16 (call.allocates 17 0) 0 0
    ∷ retotals 256 four in_turn 0 2 0 16 1 (call.allocates 10 0) 7 0
    ∷ retotals 256 four in_turn 0 2 0 0 16 (call.allocates 1000 0) 8 0
    ∷ retotals 256 (10 ∷ []) (0 ∷ []) 0 0 5 0 16 (call.allocates 20 0) 9 0
    ∷ retotals 256 four in_turn 0 2 0 0 16 (call.frees 0x8010000000000020) 0 26
    ∷ retotals 256 four in_turn 0 2 0 0 16 (call.frees 0x000800000000008E) 0 17
    ∷ retotals 256 four in_turn 214 2 0 0 16 (call.frees 0x8010000000000020) 0 240
    ∷ retotals 256 four in_turn 215 2 0 0 16 (call.frees 0x8010000000000020) 22 215
    ∷ retotals 256 four in_turn 0xFFFFFFFF 2 0 0 16 (call.frees 0x8010000000000020) 22 0xFFFFFFFF
    ∷ retotals 64 (17 ∷ []) (7 ∷ []) 0 2 0 0 16 (call.frees 0x8010000000000020) 0 48
    ∷ retotals 64 (17 ∷ []) (7 ∷ []) 1 2 0 0 16 (call.frees 0x8010000000000020) 22 1
    ∷ retotals 256 four in_turn 0xFFFFFFFF 2 0 0 16 (call.frees 0x8010000000000021) 15 0xFFFFFFFF
    ∷ retotals 256 four in_turn 0xFFFFFFFF 2 0 42 1 (call.frees 0x8010000000000020) 7 0xFFFFFFFF
    ∷ retotals 256 four in_turn 0 2 0 0 16 (call.releases 7) 0 74
    ∷ retotals 256 four in_turn 0 2 0 0 16 (call.releases 9) 0 53
    ∷ retotals 256 four in_turn 166 2 0 0 16 (call.releases 7) 0 240
    ∷ retotals 256 four in_turn 167 2 0 0 16 (call.releases 7) 22 167
    ∷ retotals 256 four in_turn 0xFFFFFFFF 2 0 0 16 (call.releases 7) 22 0xFFFFFFFF
    ∷ retotals 64 (17 ∷ []) (7 ∷ []) 0 2 0 0 16 (call.releases 7) 0 48
    ∷ retotals 64 (17 ∷ []) (7 ∷ []) 1 2 0 0 16 (call.releases 7) 22 1
    ∷ retotals 256 four in_turn 240 2 0 0 16 (call.releases 8) 0 240
    ∷ retotals 256 four in_turn 241 2 0 0 16 (call.releases 8) 22 241
    ∷ retotals 256 four in_turn 0xFFFFFFFF 2 0 0 16 (call.releases 8) 22 0xFFFFFFFF
    ∷ retotals 256 four in_turn 0xFFFFFFFF 0 0 0 16 (call.releases 9) 21 0xFFFFFFFF
    ∷ retotals 256 four in_turn 0xFFFFFFFF 2 0 78 1 (call.releases 7) 7 0xFFFFFFFF
    ∷ retotals 256 four in_turn 0xFFFFFFFF 2 0 0 16 (call.stores 0x8010000000000020 4 5) 0 0xFFFFFFFF
    ∷ retotals 256 four in_turn 113 2 0 4 0 (call.loads 0x8010000000000020 4) 4 0
    ∷ reads 1024 (10 ∷ []) 0x8010000000000027 16 32 10 (pos 7) (pos 3)
    ∷ reads 1024 (10 ∷ 20 ∷ []) 0x0007000000000039 42 58 20 (negsuc 0) (pos 21)
    ∷ reads 64 (17 ∷ []) 0x8010000000000032 16 32 17 (pos 18) (negsuc 0)
    ∷ measures 1024 (10 ∷ []) 400 0 16 0x8010000000000020 0 (pos 0) (pos 10)
    ∷ measures 1024 (10 ∷ []) 400 0 16 0x801000000000001F 0 (negsuc 0) (pos 11)
    ∷ measures 1024 (10 ∷ []) 400 0 16 0x8010000000000029 0 (pos 9) (pos 1)
    ∷ measures 1024 (10 ∷ []) 400 0 16 0x801000000000002A 0 (pos 10) (pos 0)
    ∷ measures 1024 (10 ∷ []) 400 0 16 0x801000000000002B 0 (pos 11) (negsuc 0)
    ∷ measures 1024 (10 ∷ []) 400 0 16 0x8010000000000010 0 (negsuc 15) (pos 26)
    ∷ measures 1024 (10 ∷ []) 400 0 16 0x801000000000000F 0 (negsuc 16) (pos 27)
    ∷ measures 1024 (10 ∷ []) 400 0 16 0x8010000000000000 0 (negsuc 31) (pos 42)
    ∷ measures 1024 (10 ∷ []) 400 0 16 0x801000000000003F 0 (pos 31) (negsuc 20)
    ∷ measures 1024 (10 ∷ 20 ∷ []) 400 0 16 0x000700000000003A 0 (pos 0) (pos 20)
    ∷ measures 1024 (10 ∷ 20 ∷ []) 400 0 16 0x0007000000000039 0 (negsuc 0) (pos 21)
    ∷ measures 1024 (10 ∷ 20 ∷ []) 400 0 16 0x000700000000004E 0 (pos 20) (pos 0)
    ∷ measures 1024 (10 ∷ 20 ∷ []) 400 0 16 0x000700000000002A 0 (negsuc 15) (pos 36)
    ∷ measures 1024 (10 ∷ 20 ∷ []) 400 0 16 0x0007000000000000 0 (negsuc 57) (pos 78)
    ∷ measures 1024 (10 ∷ 20 ∷ []) 400 0 16 0x000700000000007F 0 (pos 69) (negsuc 48)
    ∷ measures 1024 (992 ∷ []) 400 0 16 0x000B000000000020 0 (pos 0) (pos 992)
    ∷ measures 1024 (992 ∷ []) 400 0 16 0x000B0000000007FF 0 (pos 2015) (negsuc 1022)
    ∷ measures 64 (17 ∷ []) 400 0 16 0x8010000000000020 0 (pos 0) (pos 17)
    ∷ measures 64 (17 ∷ []) 400 0 16 0x8010000000000032 0 (pos 18) (negsuc 0)
    ∷ measures 64 (32 ∷ []) 400 0 16 0x000700000000007F 0 (pos 95) (negsuc 62)
    ∷ measures 1024 (10 ∷ []) 400 4 0 0x8010000000000020 4 (pos 0) (pos 0)
    ∷ measures 1024 (10 ∷ []) 383 0 16 0x8010000000000020 5 (pos 0) (pos 0)
    ∷ measures 1024 (10 ∷ []) 384 0 16 0x8010000000000020 0 (pos 0) (pos 10)
    ∷ measures 1024 (10 ∷ []) 383 4 0 0 4 (pos 0) (pos 0)
    ∷ measures 1024 (10 ∷ []) 383 0 16 0 5 (pos 0) (pos 0)
    ∷ measures 1024 (10 ∷ []) 400 0 16 0 10 (pos 0) (pos 0)
    ∷ measures 1024 (10 ∷ []) 400 0 16 0x8040000000000020 10 (pos 0) (pos 0)
    ∷ measures 1024 (10 ∷ []) 400 0 16 0x0006000000000020 10 (pos 0) (pos 0)
    ∷ measures 1024 (10 ∷ []) 400 0 16 0x0020FFFFFFFFFFFF 10 (pos 0) (pos 0)
    ∷ measures 1024 (10 ∷ []) 400 0 16 0x802A000000000020 11 (pos 0) (pos 0)
    ∷ measures 1024 (10 ∷ []) 400 0 16 0x8010000000000060 11 (pos 0) (pos 0)
    ∷ measures 1024 (10 ∷ []) 400 0 16 0x8010000000000420 11 (pos 0) (pos 0)
    ∷ measures 1024 (10 ∷ []) 400 0 16 0x8010FFFFFFFFFFFF 11 (pos 0) (pos 0)
    ∷ measures 1024 (10 ∷ []) 400 0 16 0x000700000000003A 11 (pos 0) (pos 0)
    ∷ measures 1024 (10 ∷ []) 400 20 1 0x8010000000000020 11 (pos 0) (pos 0)
    ∷ object 64 [] 0 16 32 6 0x8010000000000020
    ∷ framed 64 [] 0 true
    ∷ takes 64 [] 0 16
    ∷ leaves 64 [] 0 32 32
    ∷ object 64 (0 ∷ []) 0 32 48 5 0x8020000000000030
    ∷ object 64 (0 ∷ 0 ∷ []) 0 48 64 7 0x0007000000000040
    ∷ declined 64 (0 ∷ 0 ∷ 0 ∷ []) 0 8
    ∷ object 64 (16 ∷ []) 0 48 64 7 0x0007000000000040
    ∷ entry 64 (16 ∷ []) 0 0 48
    ∷ takes 64 (16 ∷ []) 0 16
    ∷ declined 64 (17 ∷ []) 0 8
    ∷ takes 79 (16 ∷ []) 0 31
    ∷ tallies 79 (16 ∷ 0 ∷ []) 2 16 0 47
    ∷ tallies 64 (0 ∷ 0 ∷ 0 ∷ []) 3 0 0 48
    ∷ damages 64 (0 ∷ []) 16 15
    ∷ damages 79 (16 ∷ 0 ∷ []) 56 16
    ∷ totals 64 (0 ∷ []) 32
    ∷ totals 79 (16 ∷ 0 ∷ []) 0
    ∷ retotals 256 four in_turn 15 2 0 0 16 (call.allocates 0 0) 22 15
    ∷ retotals 256 four in_turn 16 2 0 0 16 (call.allocates_for 0 0 9) 0 0
    ∷ retotals 64 (16 ∷ []) (0 ∷ []) 0 0 5 0 16 (call.allocates 0 0) 9 0
    ∷ moves 64 (16 ∷ 0 ∷ []) 0x0007000000000040 (pos 63) 0 0x000700000000007F
    ∷ moves 64 (16 ∷ 0 ∷ []) 0x0007000000000040 (pos 64) 12 0
    ∷ moves 64 (16 ∷ 0 ∷ []) 0x0007000000000040 (negsuc 63) 0 0x0007000000000000
    ∷ measures 64 (0 ∷ []) 400 0 16 0x8010000000000020 0 (pos 0) (pos 0)
    ∷ measures 64 (16 ∷ 0 ∷ []) 400 0 16 0x0007000000000040 0 (pos 0) (pos 0)
    ∷ measures 64 (16 ∷ 0 ∷ []) 400 0 16 0x0007000000000041 0 (pos 1) (negsuc 0)
    ∷ measures 64 (16 ∷ 0 ∷ []) 400 0 16 0x000700000000003F 0 (negsuc 0) (pos 1)
    ∷ reads 64 (16 ∷ 0 ∷ []) 0x0007000000000040 48 64 0 (pos 0) (pos 0)
    ∷ accesses 64 (0 ∷ []) 0x8010000000000020 1 0 13 13 0
    ∷ accesses 64 (0 ∷ []) 0x801000000000001F 1 0 13 13 0
    ∷ accesses 79 (16 ∷ 0 ∷ []) 0x0007000000000040 1 0 13 13 0
    ∷ accesses 64 (16 ∷ 0 ∷ []) 0x0007000000000040 1 0 13 13 0
    ∷ accesses 64 (16 ∷ 0 ∷ []) 0x0007000000000040 0 0 14 14 0
    ∷ retotals 64 (16 ∷ 0 ∷ []) (7 ∷ 9 ∷ []) 0 2 0 0 16 (call.fills 0x0007000000000040 1 5) 13 0
    ∷ retotals 64 (16 ∷ 0 ∷ []) (7 ∷ 9 ∷ []) 0 2 0 0 16 (call.fills 0x0007000000000040 0 5) 6 0
    ∷ retotals 64 (16 ∷ 0 ∷ []) (7 ∷ 9 ∷ []) 0 2 0 0 16 (call.copies 0x0007000000000040 0x8010000000000020 1) 13 0
    ∷ retotals 64 (16 ∷ 0 ∷ []) (7 ∷ 9 ∷ []) 0 2 0 0 16 (call.copies 0x8010000000000020 0x0007000000000040 1) 13 0
    ∷ retotals 64 (16 ∷ 0 ∷ []) (7 ∷ 9 ∷ []) 0 2 0 0 16 (call.copies 0x0007000000000040 0x0007000000000040 0) 6 0
    ∷ compares 64 (16 ∷ 0 ∷ []) 0x8010000000000020 [] 0x0007000000000040 0x8010000000000020 1 13 (pos 0)
    ∷ compares 64 (16 ∷ 0 ∷ []) 0x8010000000000020 [] 0x8010000000000020 0x0007000000000040 1 13 (pos 0)
    ∷ compares 64 (16 ∷ 0 ∷ []) 0x8010000000000020 [] 0x0007000000000040 0x0007000000000040 0 6 (pos 0)
    ∷ texts 64 (16 ∷ 0 ∷ []) 0x8010000000000020 hello 0x8010000000000020 0x0007000000000040 13 0 0x0000006F6C6C6568
    ∷ texts 64 (16 ∷ 0 ∷ []) 0x8010000000000020 [] 0x0007000000000040 0x8010000000000020 13 0 0
    ∷ retotals 64 (16 ∷ 0 ∷ []) (7 ∷ 9 ∷ []) 0 2 0 0 16 (call.frees 0x0007000000000040) 0 16
    ∷ retotals 64 (16 ∷ 0 ∷ []) (7 ∷ 9 ∷ []) 0 2 0 0 16 (call.frees 0x0007000000000041) 15 0
    ∷ retotals 79 (16 ∷ 0 ∷ []) (7 ∷ 9 ∷ []) 0 2 0 0 16 (call.frees 0x0007000000000040) 0 31
    ∷ releases 64 (16 ∷ 0 ∷ []) (7 ∷ 9 ∷ []) [] 2 0 9 0 1 (2 ∷ 32 ∷ 1 ∷ 16 ∷ []) (0 ∷ 0 ∷ [])
    ∷ releases 64 (0 ∷ 0 ∷ 0 ∷ []) (7 ∷ 9 ∷ 7 ∷ []) [] 2 0 7 0 2 (1 ∷ 16 ∷ 2 ∷ 16 ∷ 1 ∷ 16 ∷ []) (0 ∷ 0 ∷ [])
    ∷ releases 64 (0 ∷ 0 ∷ 0 ∷ []) (7 ∷ 9 ∷ 7 ∷ []) (7 ∷ []) 2 0 9 0 1 (1 ∷ 48 ∷ []) (0 ∷ 0 ∷ [])
    ∷ keeps 64 (16 ∷ 0 ∷ []) (7 ∷ 9 ∷ []) 0 0 0 16 9 21
    ∷ casts 1024 [] 30 4 400 0 16 winch 0x8010000000000020 4 0 1
    ∷ casts 1024 [] 30 4 400 0 16 winch 0x8010000000000020 3 0 0
    ∷ casts 1024 [] 30 4 400 0 16 winch 0x8010000000000021 4 0 0
    ∷ casts 1024 [] 30 4 400 0 16 winch 0x8010000000000024 3 0 1
    ∷ casts 1024 [] 30 4 400 0 16 winch 0x8010000000000024 1 0 1
    ∷ casts 1024 [] 30 4 400 0 16 winch 0x8010000000000024 4 0 0
    ∷ casts 1024 [] 30 4 400 0 16 winch 0x801000000000002C 1 0 1
    ∷ casts 1024 [] 30 4 400 0 16 winch 0x8010000000000030 3 0 1
    ∷ casts 1024 [] 30 4 400 0 16 winch 0x8010000000000028 2 0 1
    ∷ casts 1024 [] 30 4 400 0 16 winch 0x8010000000000028 1 0 0
    ∷ casts 1024 [] 30 4 400 0 16 winch 0x801000000000002A 1 0 0
    ∷ casts 1024 [] 30 4 400 0 16 winch 0x8010000000000038 1 0 1
    ∷ casts 1024 [] 30 4 400 0 16 winch 0x801000000000003C 1 0 0
    ∷ casts 1024 [] 30 4 400 0 16 winch 0x801000000000003D 1 0 0
    ∷ casts 1024 [] 30 4 400 0 16 winch 0x801000000000003E 4 0 0
    ∷ casts 1024 [] 30 4 400 0 16 winch 0x801000000000003F 1 0 0
    ∷ casts 1024 [] 30 4 400 0 16 winch 0x801000000000001F 4 0 0
    ∷ casts 1024 [] 30 4 400 0 16 winch 0x8010000000000000 4 0 0
    ∷ casts 1024 [] 30 4 400 0 16 winch 0x801000000000001C 3 0 0
    ∷ casts 1024 [] 30 4 400 0 16 winch 0x8010000000000020 9 0 0
    ∷ casts 1024 [] 30 4 400 0 16 winch 0x8010000000000020 65535 0 0
    ∷ casts 1024 [] 31 4 400 0 16 winch 0x8010000000000020 4 0 1
    ∷ casts 1024 [] 31 4 400 0 16 winch 0x801000000000003E 4 0 0
    ∷ casts 1024 [] 40 4 400 0 16 winch 0x0007000000000030 3 0 1
    ∷ casts 1024 [] 40 4 400 0 16 winch 0x000700000000001F 4 0 0
    ∷ casts 1024 [] 40 4 400 0 16 winch 0x0007000000000047 1 0 0
    ∷ casts 1024 [] 29 4 400 0 16 winch 0x8010000000000020 4 25 0
    ∷ casts 1024 [] 30 5 400 0 16 winch 0x8010000000000020 4 25 0
    ∷ casts 1024 [] 30 4 400 0 16 [] 0x8010000000000020 4 25 0
    ∷ casts 1024 [] 0 1 400 0 16 winch 0x8010000000000020 1 25 0
    ∷ casts 1024 [] 1 7 400 0 16 (plain 7 1) 0x8010000000000020 7 0 1
    ∷ casts 1024 (10 ∷ []) 20 7 400 0 16 (plain 7 1) 0x000700000000003A 7 0 1
    ∷ casts 1024 [] 29 4 383 4 0 (plain 1 0) 0x0000000000000000 4 4 0
    ∷ casts 1024 [] 29 4 383 0 16 (plain 1 0) 0x0000000000000000 4 5 0
    ∷ casts 1024 [] 29 4 400 0 16 (plain 1 0) 0x0000000000000000 4 24 0
    ∷ casts 1024 [] 29 4 400 0 16 (plain 1 0) 0x8010000000000020 4 24 0
    ∷ casts 1024 [] 29 4 400 0 16 winch 0x0000000000000000 4 10 0
    ∷ casts 1024 [] 29 4 400 0 16 winch 0x802A000000000020 4 11 0
    ∷ casts 1024 [] 30 4 400 0 16 [] 0x802A000000000020 4 11 0
    ∷ casts 1024 [] 30 4 400 20 1 winch 0x8010000000000020 4 11 0
    ∷ []

pub worked : T (all cases)
unfolding frame_number frame_number_in unpack pack good_tag reach landed moved wrapper tag_number pointer_to tag_matches used_entries entry_at encode decode field put superblock with_total superblock_good header header_at well_formed sound walk_in walk_from walk fit_of first_fit set_up_checks fresh set_up opening entry_holds fit_answer taken_extent allocate_checks carved noted allocate_for header_place verified leads_back located from_start to_end found_at read_tag in_body accessed distances_checks distances_at distances descriptor_at field_at look_up_in look_up field_end good_fields_in good_descriptor good_from_in good_list any_below field_has type_has_in type_has descriptor at winch described_by described has_at cast_answer has_type moved_answer move_answer move load_answer load store_checks store fill_checks fill compare_bytes text_from text_of copy_checks copy compared compare text_answer text_at copy_text_checks copy_text count_of count_blocks tally_opened tally_counted tally met_of walk_to merge_end merge_start released free_checks released_at total_fits totalled free_release merged freed free walk_cue gathered_answer places_of all_held extents_of release_checks pointers_to cue_pointers free_each release_cue free_total
worked = tt

-- A load buffer on a fresh image.
abbrev buffer : State
buffer = (allocate 30 4 (begun 1024)).after

-- What is computed of it: a sample stands 4 bytes behind its base, and none 5 bytes behind it; without a list it is not described; image and table pass 4 and 5, and
-- none at all does not; number 0 has no good tag, and its pointer leads to 16.
computed :
    (has_type winch 0x8010000000000024 3 buffer ≡ Ok 1) × (has_type winch 0x8010000000000025 3 buffer ≡ Ok 0)
    × (has_type [] 0x8010000000000024 3 buffer ≡ Err Undescribed) × (opening buffer ≡ Ok 6) × (opening (state [] []) ≡ Err BadSuperblock)
    × (located 6 (unpack 0) buffer ≡ Err BadTag) × (located 6 (unpack 0x8010000000000024) buffer ≡ Ok 16)
unfolding frame_number frame_number_in unpack pack good_tag reach wrapper tag_number pointer_to tag_matches used_entries entry_at encode decode field put superblock with_total superblock_good header header_at well_formed sound walk_in walk_from walk fit_of first_fit set_up_checks fresh set_up opening entry_holds fit_answer taken_extent allocate_checks carved noted allocate_for header_place verified leads_back located from_start descriptor_at field_at look_up_in look_up field_end good_fields_in good_descriptor good_from_in good_list any_below field_has type_has_in type_has descriptor at winch described_by described has_at cast_answer has_type
computed = (refl, refl, refl, refl, refl, refl, refl)

-- What the claims on casts say then: its rows are passed, and a sample stands there, or does not, as the relation says; refused by 4, by 10 and by 25, it gives 0; and a
-- list with a descriptor of size 0 is refused by 24, whatever the pointer and the wanted type, numbers of more than 64 bits too.
pub claimed : RefusalsKeep → ChecksCasts → (SomeBad winch → ⊥) → (SomeBad [] → ⊥)
    → ((h q : ℕ) × Castable winch 0x8010000000000024 buffer h q × HasWanted winch 0x8010000000000024 3 buffer h)
    × ((h q : ℕ) × Castable winch 0x8010000000000025 buffer h q × (HasWanted winch 0x8010000000000025 3 buffer h → ⊥))
    × (has_type winch 0 (2 ^ 64) (state [] []) ≡ Err BadSuperblock)
    × (has_type winch 0 (2 ^ 64) buffer ≡ Err BadTag)
    × Undescribes [] (type_at buffer.image 16) (size_at buffer.image 16)
    × (returned (has_type [] 0x8010000000000024 (2 ^ 64) buffer) ≡ 25)
    × (value (has_type [] 0x8010000000000024 3 buffer) ≡ 0)
    × (returned (has_type (plain 1 0) (2 ^ 64) (2 ^ 64) buffer) ≡ 24)
unfolding ChecksCasts descriptor encode decode field descriptor_at
claimed kept claim none empty =
    let (h, q, c) = (claim winch 0x8010000000000024 3 buffer).accepted.0 (ap returned computed.0) in
    let (i, r, d) = (claim winch 0x8010000000000025 3 buffer).accepted.0 (ap returned computed.1) in
    let undescribed = ((claim [] 0x8010000000000024 3 buffer).undescribed 6 16 computed.3 empty computed.6).0 (ap returned computed.2) in (
      (h, q, c, ((claim winch 0x8010000000000024 3 buffer).yes h q c).0 computed.0),
      (i, r, d, ((claim winch 0x8010000000000025 3 buffer).no i r d).0 computed.1),
      (claim winch 0 (2 ^ 64) (state [] [])).shut BadSuperblock computed.4,
      (claim winch 0 (2 ^ 64) buffer).unread 6 BadTag computed.3 none computed.5,
      undescribed,
      ((claim [] 0x8010000000000024 (2 ^ 64) buffer).undescribed 6 16 computed.3 empty computed.6).1 undescribed,
      kept.casts [] 0x8010000000000024 3 buffer (λ e. let z : ◌≡◌ {A = ℕ} 25 0 = sym (ap returned computed.2) ∙ e in omega arith),
      ((claim (plain 1 0) (2 ^ 64) (2 ^ 64) buffer).bad_list 6 computed.3).1 (0, first, omega arith, no_size refl),
    )
