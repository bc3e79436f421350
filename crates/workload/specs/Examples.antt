-- By computation: the generator at chosen bits; each rule of a choice at its ends; short loads, with a full log and refused ones. Assumes nothing.
use Rattle.std.specs.Prelude.{◌≡◌, ℕ, zero, suc, true, false, Result, Ok, Err, ◌+◌, ◌-◌, ◌*◌, ◌^◌, List, [], ◌∷◌, ◌++◌, take, replicate, refl}
use Rattle.frame.specs.Frame.{frame_number, frame_number_in}
use Rattle.frame.specs.Pointers.{unpack, pack, good_tag, reach}
use Rattle.frame.specs.Tags.{wrapper, tag_number, pointer_to, tag_matches, used_entries, entry_at}
use Rattle.block.specs.Bytes.{encode, decode, field, put}
use Rattle.block.specs.Layout.{superblock, with_total, superblock_good, header, header_at, well_formed, sound}
use Rattle.block.specs.Walk.{walk_in, walk_from, walk, fit_of, first_fit, met_of, walk_to}
use Rattle.store.specs.State.{state}
use Rattle.store.specs.Calls.{set_up_checks, fresh, set_up, opening, entry_holds, fit_answer, taken_extent, allocate_checks, carved, noted, allocate_for, header_place, verified, leads_back, located, in_body, accessed, store_checks, store, merge_end, merge_start, released, free_checks, released_at, total_fits, totalled, free_release, merged, freed, free}
use Rattle.store.specs.declared.answer.Refusal.{Refusal}
use Rattle.store.specs.declared.answer.Refusal.TheVariants.{BadExponent, BadLength, TooFewEntries, NoSpace}
use Rattle.call_log.specs.Records.{field_bytes}
use Rattle.call_log.specs.Written.{encode_all, fields_of, record_of, log_of}
use Rattle.call_log.specs.declared.record.Call.{Call}
use Rattle.call_log.specs.declared.record.Call.TheVariants as call
use Rattle.workload.specs.Generator.{advanced, xor_right, xor_left, drawn}
use Rattle.workload.specs.Choice.{allocates, choice_of, remove_at, pointers_after}
use Rattle.workload.specs.Traffic.{recorded, draws_from, LoggedOutcome, logged, traffic}
use Rattle.workload.specs.declared.answer.Traffic.{Traffic}
use Rattle.workload.specs.declared.choosing.Choice.TheVariants.{Allocate, Free, Store}

-- The generator.

-- the sum wraps round
pub sums :
    (advanced 0 ≡ 0x9E3779B97F4A7C15)
    × (advanced (2 ^ 64 - 1) ≡ 0x9E3779B97F4A7C14)
    × (advanced 0x61C8864680B583EA ≡ 2 ^ 64 - 1)
    × (advanced 0x61C8864680B583EB ≡ 0)
unfolding advanced
sums = (refl, refl, refl, refl)

-- each shift moves one bit, and to the left the high ones are lost
pub shifts :
    (xor_right 30 (2 ^ 30) ≡ 2 ^ 30 + 1)
    × (xor_right 30 (2 ^ 29) ≡ 2 ^ 29)
    × (xor_left 27 (2 ^ 36) ≡ 2 ^ 63 + 2 ^ 36)
    × (xor_left 27 (2 ^ 37) ≡ 2 ^ 37)
    × (drawn 0 ≡ 0)
    × (drawn 1 ≡ 0x8000001)
    × (drawn (2 ^ 63) ≡ 0x9000000320000004)
    × (drawn (2 ^ 64 - 1) ≡ 0x1FFFFFFC3FFFFFF8)
unfolding xor_right xor_left drawn
shifts = (refl, refl, refl, refl, refl, refl, refl, refl)

-- the first four draws from the state 0
pub first_draws :
    (drawn (advanced 0) ≡ 0x460BC56C0B801029)
    × (drawn (advanced (advanced 0)) ≡ 0xAC178ADC5F00205B)
    × (drawn (advanced (advanced (advanced 0))) ≡ 0xA21C5B2A237E76D8)
    × (drawn (advanced (advanced (advanced (advanced 0)))) ≡ 0x582F15BAB60040B7)
unfolding advanced xor_right xor_left drawn
first_draws = (refl, refl, refl, refl)

-- Choices.

-- n numbers from k on, for pointers
abbrev numbers : ℕ → ℕ → List ℕ
numbers zero k = []
numbers (suc n) k = k ∷ numbers n (suc k)

-- with no pointers every draw allocates, 1 to 97 bytes; with one; with 63, and with 64, where none does; with all 64 bits of v
pub choices :
    (choice_of (256 * 96 + 0) [] ≡ Allocate 97)
    × (choice_of (256 * 97 + 1) [] ≡ Allocate 1)
    × (choice_of (256 * 0 + 2) [] ≡ Allocate 1)
    × (choice_of (256 * 5 + 3) [] ≡ Allocate 6)
    × (choice_of (256 * 7 + 2) (numbers 1 100) ≡ Free 0 100)
    × (choice_of (256 * 7 + 3) (numbers 1 100) ≡ Store 100 3)
    × (choice_of (256 * 130 + 0) (numbers 63 100) ≡ Allocate 34)
    × (choice_of (256 * 130 + 1) (numbers 63 100) ≡ Allocate 34)
    × (choice_of (256 * 130 + 2) (numbers 63 100) ≡ Free 4 104)
    × (choice_of (256 * 130 + 255) (numbers 63 100) ≡ Store 104 255)
    × (choice_of (256 * 130 + 0) (numbers 64 100) ≡ Free 2 102)
    × (choice_of (256 * 130 + 253) (numbers 64 100) ≡ Free 2 102)
    × (choice_of (256 * 130 + 2) (numbers 64 100) ≡ Free 2 102)
    × (choice_of (256 * 130 + 255) (numbers 64 100) ≡ Store 102 255)
    × (choice_of (256 * 191 + 254) (numbers 64 100) ≡ Free 63 163)
    × (choice_of 0x582F15BAB60040B7 (numbers 63 100) ≡ Store 154 183)
    × (choice_of (2 ^ 64 - 2) (numbers 63 100) ≡ Free 3 103)
unfolding allocates choice_of
choices = (refl, refl, refl, refl, refl, refl, refl, refl, refl, refl, refl, refl, refl, refl, refl, refl, refl)

-- an accepted pointer goes behind the others, and a declined allocation adds none; the freed one goes out, and later ones move down; a store changes nothing
pub pointers_after_lem :
    (pointers_after (Allocate 1) (Ok 9) (7 ∷ 8 ∷ []) ≡ 7 ∷ 8 ∷ 9 ∷ [])
    × (pointers_after (Allocate 1) (Err NoSpace) (7 ∷ 8 ∷ []) ≡ 7 ∷ 8 ∷ [])
    × (pointers_after (Free 0 7) (Ok 0) (7 ∷ 8 ∷ 9 ∷ []) ≡ 8 ∷ 9 ∷ [])
    × (pointers_after (Free 1 8) (Ok 0) (7 ∷ 8 ∷ 9 ∷ []) ≡ 7 ∷ 9 ∷ [])
    × (pointers_after (Free 2 9) (Ok 0) (7 ∷ 8 ∷ 9 ∷ []) ≡ 7 ∷ 8 ∷ [])
    × (pointers_after (Store 8 1) (Ok 0) (7 ∷ 8 ∷ 9 ∷ []) ≡ 7 ∷ 8 ∷ 9 ∷ [])
unfolding remove_at pointers_after
pointers_after_lem = (refl, refl, refl, refl, refl, refl)

-- Loads.

-- on an image of 64 bytes and a table of 60 entries, full of other numbers, at the slot exponent 6, from the state 8, with a log full of fives
abbrev load : ℕ → ℕ → LoggedOutcome
load draws space = traffic 6 8 draws (state (replicate 64 7) (replicate 60 9)) (replicate space 5)

-- the table that is left: the used entries are zero
abbrev table : List ℕ
table = replicate 48 0 ++ replicate 12 9

-- the fresh image
abbrev image : List ℕ
image =
    16 ∷ 0 ∷ 0 ∷ 0 ∷ 3 ∷ 0 ∷ 6 ∷ 0 ∷ 64 ∷ 0 ∷ 0 ∷ 0 ∷ 48 ∷ 0 ∷ 0 ∷ 0
    ∷ 48 ∷ 0 ∷ 0 ∷ 0 ∷ 1 ∷ 0 ∷ 0 ∷ 0 ∷ 0 ∷ 0 ∷ 0 ∷ 0 ∷ 0 ∷ 0 ∷ 0 ∷ 0
    ∷ replicate 32 0

-- the image with an object of 16 bytes that begins with the byte 191
abbrev image_191 : List ℕ
image_191 =
    16 ∷ 0 ∷ 0 ∷ 0 ∷ 3 ∷ 0 ∷ 6 ∷ 0 ∷ 64 ∷ 0 ∷ 0 ∷ 0 ∷ 16 ∷ 0 ∷ 0 ∷ 0
    ∷ 32 ∷ 0 ∷ 0 ∷ 0 ∷ 2 ∷ 0 ∷ 0 ∷ 0 ∷ 16 ∷ 0 ∷ 0 ∷ 0 ∷ 0 ∷ 0 ∷ 0 ∷ 0
    ∷ 191 ∷ 0 ∷ 0 ∷ 0 ∷ 0 ∷ 0 ∷ 0 ∷ 0 ∷ 0 ∷ 0 ∷ 0 ∷ 0 ∷ 0 ∷ 0 ∷ 0 ∷ 0
    ∷ 16 ∷ 0 ∷ 0 ∷ 0 ∷ 1 ∷ 0 ∷ 0 ∷ 0 ∷ 0 ∷ 0 ∷ 0 ∷ 0 ∷ 0 ∷ 0 ∷ 0 ∷ 0
    ∷ []

-- the answer where all draws are recorded, and where the log is full
abbrev done : ℕ → ℕ → Result Traffic Refusal
done g written = Ok (record { generator = g; written = written; full = false })

abbrev log_full : ℕ → ℕ → Result Traffic Refusal
log_full g written = Ok (record { generator = g; written = written; full = true })

-- its calls: the first allocation and the last do not fit
abbrev calls : List Call
calls =
    call.Allocate 90 0
    ∷ call.Allocate 16 0
    ∷ call.Store 0x8010000000000020 1 167
    ∷ call.Store 0x8010000000000020 1 191
    ∷ call.Free 0x8010000000000020
    ∷ call.Allocate 66 0
    ∷ []

-- the first four records of their log are 64 bytes, and the first five 76
abbrev first : ℕ → List ℕ
first n = take n (log_of calls)

-- six draws, with a log that their records fill; with one byte less, and with one more; four draws; no draw; a log that the first record does not fit
pub loads :
    (load 6 86 ≡ logged (done 0xB54CDA58FBBEE886 86) (state image table) (log_of calls))
    × (load 6 85 ≡ logged (log_full 0x1715609F7C746C71 76) (state image table) (first 76 ++ replicate 9 5))
    × (load 6 87 ≡ logged (done 0xB54CDA58FBBEE886 86) (state image table) (log_of calls ++ (5 ∷ [])))
    × (load 4 70 ≡ logged (done 0x78DDE6E5FD29F05C 64) (state image_191 table) (first 64 ++ replicate 6 5))
    × (load 6 75 ≡ logged (log_full 0x78DDE6E5FD29F05C 64) (state image_191 table) (first 64 ++ replicate 11 5))
    × (load 0 2 ≡ logged (done 8 0) (state image table) (5 ∷ 5 ∷ []))
    × (load 6 9 ≡ logged (log_full 8 0) (state image table) (replicate 9 5))
    × (load (2 ^ 64 - 1) 0 ≡ logged (log_full 8 0) (state image table) [])
unfolding frame_number frame_number_in unpack pack good_tag reach wrapper tag_number pointer_to tag_matches used_entries entry_at encode decode field put superblock with_total superblock_good header header_at well_formed sound walk_in walk_from walk fit_of first_fit met_of walk_to set_up_checks fresh set_up opening entry_holds fit_answer taken_extent allocate_checks carved noted allocate_for header_place verified leads_back located in_body accessed store_checks store merge_end merge_start released free_checks released_at total_fits totalled free_release merged freed free field_bytes encode_all fields_of record_of log_of advanced xor_right xor_left drawn allocates choice_of remove_at pointers_after recorded draws_from traffic
loads = (refl, refl, refl, refl, refl, refl, refl, refl)

-- an image and table of those lengths, full of other numbers, at a slot exponent
abbrev refused : ℕ → ℕ → ℕ → LoggedOutcome
refused s bytes entries = traffic s 8 6 (state (replicate bytes 7) (replicate entries 9)) (replicate 86 5)

-- 1, 2 and 3, in this order, leave all as it was
pub refusals :
    (refused 5 63 0 ≡ logged (Err BadExponent) (state (replicate 63 7) []) (replicate 86 5))
    × (refused 16 64 48 ≡ logged (Err BadExponent) (state (replicate 64 7) (replicate 48 9)) (replicate 86 5))
    × (refused 6 63 0 ≡ logged (Err BadLength) (state (replicate 63 7) []) (replicate 86 5))
    × (refused 6 64 47 ≡ logged (Err TooFewEntries) (state (replicate 64 7) (replicate 47 9)) (replicate 86 5))
unfolding used_entries set_up_checks set_up traffic
refusals = (refl, refl, refl, refl)
