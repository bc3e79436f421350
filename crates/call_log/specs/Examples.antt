-- By computation: document 02's sample log; a log with every kind of record, that of `examples/log`; one for each way in which a record is malformed.
-- Assumes nothing.
use Rattle.std.specs.Prelude.{ℕ, ◌≡◌, refl, Bool, true, ◌&&◌, List, [], ◌∷◌, ◌++◌, eqb, replicate, pos, negsuc, Option, Some, None}
use Rattle.frame.specs.Frame.{frame_number, frame_number_in}
use Rattle.frame.specs.Pointers.{unpack, pack, good_tag, reach, landed, moved}
use Rattle.frame.specs.Tags.{wrapper, tag_number, pointer_to, tag_matches, used_entries, entry_at}
use Rattle.block.specs.Bytes.{encode, decode, field, put}
use Rattle.block.specs.Layout.{superblock, with_total, superblock_good, header, header_at, well_formed, sound}
use Rattle.block.specs.Walk.{walk_in, walk_from, walk, fit_of, first_fit, met_of, walk_to}
use Rattle.store.specs.State.{State, state}
use Rattle.store.specs.Calls.{set_up_checks, fresh, set_up, opening, entry_holds, fit_answer, taken_extent, allocate_checks, carved, noted, allocate_for, header_place, verified, leads_back, located, in_body, accessed, moved_answer, move_answer, move, load_answer, load, store_checks, store, fill_checks, fill, copy_checks, copy, merge_end, merge_start, released, free_checks, released_at, total_fits, totalled, free_release, merged, freed, free}
use Rattle.call_log.specs.Records.{fault_number, field_bytes, signed, call_at, good_value, formed_at, next_at, records_in, records_from, records}
use Rattle.call_log.specs.Run.{answers, run_over}
use Rattle.call_log.specs.Text.{ascii, digit, hexadecimal, decimal_in, decimal, line_of, answer_lines, fault_line, printed}
use Rattle.call_log.specs.Written.{encode_all, unsigned, fields_of, record_of, log_of}
use Rattle.call_log.specs.declared.record.Call.{Call}
use Rattle.call_log.specs.declared.record.Call.TheVariants.{Allocate, Free, Move, Load, Store, Fill, Copy}
use Rattle.call_log.specs.declared.record.Fault.{Fault}

-- document 02's bytes: an allocate of 10 bytes of type 7, and a load of 1 byte
abbrev pub sample : List ℕ
sample =
    0x0A ∷ 0x00 ∷ 0x10 ∷ 0x00 ∷ 0x0A ∷ 0x00 ∷ 0x00 ∷ 0x00 ∷ 0x07 ∷ 0x00
    ∷ 0x0E ∷ 0x00 ∷ 0x13 ∷ 0x00 ∷ 0x20 ∷ 0x00 ∷ 0x00 ∷ 0x00 ∷ 0x00 ∷ 0x00 ∷ 0x10 ∷ 0x80 ∷ 0x01 ∷ 0x00
    ∷ []

-- an image of 8,192 bytes and its table, set up at the slot exponent 8
abbrev fresh8 : State
fresh8 = (set_up 8 (state (replicate 8192 0) (replicate 768 0))).after

-- there they give exactly its lines
pub sample_lines : printed (run_over sample fresh8) ≡ ascii "16 0 8010000000000020\n19 0 0000000000000000\n"
unfolding frame_number frame_number_in unpack pack good_tag reach landed moved wrapper tag_number pointer_to tag_matches used_entries entry_at encode decode field put superblock with_total superblock_good header header_at well_formed sound walk_in walk_from walk fit_of first_fit met_of walk_to set_up_checks fresh set_up opening entry_holds fit_answer taken_extent allocate_checks carved noted allocate_for header_place verified leads_back located in_body accessed moved_answer move_answer move load_answer load store_checks store fill_checks fill copy_checks copy merge_end merge_start released free_checks released_at total_fits totalled free_release merged freed free signed field_bytes call_at good_value formed_at next_at records_in records_from answers digit hexadecimal decimal_in decimal line_of answer_lines fault_line printed
sample_lines = refl

-- two objects, the second large-framed; numbers of 4 and 3 bytes are written, copied over and read; a load past the end and one after free are refused
abbrev pub calls : List Call
calls =
    Allocate 10 7
    ∷ Allocate 300 1
    ∷ Store 0x8010000000000020 4 1250
    ∷ Load 0x8010000000000020 4
    ∷ Move 0x8010000000000020 (pos 3)
    ∷ Load 0x8010000000000023 8
    ∷ Move 0x8010000000000023 (negsuc 0)
    ∷ Store 0x8010000000000022 3 0xABCDEF
    ∷ Fill 0x000900000000003A 300 0x55
    ∷ Copy 0x000900000000003A 0x8010000000000020 10
    ∷ Load 0x000900000000003A 8
    ∷ Free 0x8010000000000020
    ∷ Load 0x8010000000000020 4
    ∷ Free 0x000900000000003A
    ∷ []

-- their log, and an allocate's record that is cut short
pub calls_lines :
    printed (run_over (log_of calls ++ (0x0A ∷ 0x00 ∷ 0x10 ∷ 0x00 ∷ 0x01 ∷ 0x00 ∷ 0x00 ∷ 0x00 ∷ [])) fresh8)
    ≡ ascii "16 0 8010000000000020\n16 0 000900000000003A\n20 0 0000000000000000\n19 0 00000000000004E2\n18 0 8010000000000023\n19 13 0000000000000000\n18 0 8010000000000022\n20 0 0000000000000000\n21 0 0000000000000000\n22 0 0000000000000000\n19 0 000000ABCDEF04E2\n17 0 0000000000000000\n19 11 0000000000000000\n17 0 0000000000000000\nlog 17\n"
unfolding frame_number frame_number_in unpack pack good_tag reach landed moved wrapper tag_number pointer_to tag_matches used_entries entry_at encode decode field put superblock with_total superblock_good header header_at well_formed sound walk_in walk_from walk fit_of first_fit met_of walk_to set_up_checks fresh set_up opening entry_holds fit_answer taken_extent allocate_checks carved noted allocate_for header_place verified leads_back located in_body accessed moved_answer move_answer move load_answer load store_checks store fill_checks fill copy_checks copy merge_end merge_start released free_checks released_at total_fits totalled free_release merged freed free signed field_bytes call_at good_value formed_at next_at records_in records_from answers digit hexadecimal decimal_in decimal line_of answer_lines fault_line printed encode_all unsigned fields_of record_of log_of
calls_lines = refl

-- A log, and the number of the malformed record that it ends with; 0 for none.
pub record Case : Type 0 where
  pub log : List ℕ
  pub number : ℕ

abbrev case : List ℕ → ℕ → Case
case log n = record { log = log; number = n }

abbrev ends : Option Fault → ℕ
ends None = 0
ends (Some f) = fault_number f

-- a free's record
abbrev free_record : List ℕ → List ℕ
free_record behind = 12 ∷ 0 ∷ 17 ∷ 0 ∷ 1 ∷ 2 ∷ 3 ∷ 4 ∷ 5 ∷ 6 ∷ 7 ∷ 8 ∷ behind

-- a fill's record with that value, low byte and high byte
abbrev fill_record : ℕ → ℕ → List ℕ
fill_record low high = 18 ∷ 0 ∷ 21 ∷ 0 ∷ 1 ∷ 2 ∷ 3 ∷ 4 ∷ 5 ∷ 6 ∷ 7 ∷ 8 ∷ 1 ∷ 0 ∷ 0 ∷ 0 ∷ low ∷ high ∷ []

abbrev pub cases : List Case
cases =
    case [] 0
    ∷ case (free_record (free_record [])) 0
    -- one to three bytes remain
    ∷ case (1 ∷ []) 17
    ∷ case (free_record (12 ∷ 0 ∷ 17 ∷ [])) 17
    -- the length is under 4, or exceeds what remains
    ∷ case (3 ∷ 0 ∷ 17 ∷ 0 ∷ []) 17
    ∷ case (5 ∷ 0 ∷ 17 ∷ 0 ∷ []) 17
    ∷ case (12 ∷ 1 ∷ 17 ∷ 0 ∷ 1 ∷ 2 ∷ 3 ∷ 4 ∷ 5 ∷ 6 ∷ 7 ∷ 8 ∷ []) 17
    -- and so for an unknown kind
    ∷ case (3 ∷ 0 ∷ 23 ∷ 0 ∷ []) 17
    ∷ case (5 ∷ 0 ∷ 23 ∷ 0 ∷ []) 17
    -- the kind is unknown, whatever the length
    ∷ case (4 ∷ 0 ∷ 15 ∷ 0 ∷ []) 18
    ∷ case (free_record (4 ∷ 0 ∷ 23 ∷ 0 ∷ [])) 18
    ∷ case (4 ∷ 0 ∷ 17 ∷ 1 ∷ []) 18
    ∷ case (12 ∷ 0 ∷ 23 ∷ 0 ∷ 1 ∷ 2 ∷ 3 ∷ 4 ∷ 5 ∷ 6 ∷ 7 ∷ 8 ∷ []) 18
    -- the length does not suit the kind
    ∷ case (4 ∷ 0 ∷ 17 ∷ 0 ∷ []) 19
    ∷ case (11 ∷ 0 ∷ 17 ∷ 0 ∷ 1 ∷ 2 ∷ 3 ∷ 4 ∷ 5 ∷ 6 ∷ 7 ∷ 8 ∷ []) 19
    -- a fill value exceeds 255
    ∷ case (fill_record 255 0) 0
    ∷ case (fill_record 0 1) 19
    ∷ []

abbrev pub all : List Case → Bool
all [] = true
all (c ∷ cs) = eqb (ends (records c.log).fault) c.number && all cs

-- each log ends as its case says
pub cases_hold : all cases ≡ true
unfolding decode field field_bytes signed call_at good_value formed_at next_at records_in records_from
cases_hold = refl
