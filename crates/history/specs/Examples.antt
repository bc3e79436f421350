-- Lists of calls that demand 3 admits, and what they leave, by computation: the claims are about lists such as these. Assumes nothing.
use Rattle.store.specs.State.{usage_of}
use Rattle.store.specs.State.{measured_as}
use Rattle.std.specs.Prelude.{ℕ, ◌≡◌, refl, true, List, [], ◌∷◌, length, replicate, get_or, pos, negsuc, Ok}
use Rattle.frame.specs.Frame.{frame_number, frame_number_in}
use Rattle.frame.specs.Pointers.{unpack, pack, good_tag, reach, landed, moved}
use Rattle.frame.specs.Tags.{wrapper, tag_number, pointer_to, tag_matches, used_entries, entry_at}
use Rattle.block.specs.Bytes.{encode, decode, field, put}
use Rattle.block.specs.Text.{text_from, text_of}
use Rattle.block.specs.Layout.{superblock, with_total, superblock_good, header, header_at, well_formed, sound}
use Rattle.block.specs.Walk.{walk_in, walk_from, walk, fit_of, first_fit, met_of, walk_to, count_of, count_blocks, walk_cue}
use Rattle.store.specs.State.{State, state, IsAccepted}
use Rattle.store.specs.Calls.{set_up_checks, fresh, set_up, opening, entry_holds, fit_answer, taken_extent, allocate_checks, carved, noted, allocate_for, header_place, verified, leads_back, located, from_start, to_end, in_body, accessed, distances_checks, distances_at, distances, moved_answer, move_answer, move, load_answer, load, store_checks, store, fill_checks, fill, copy_checks, copy, text_answer, text_at, copy_text_checks, copy_text, merge_end, merge_start, released, free_checks, released_at, total_fits, totalled, free_release, merged, freed, free, gathered_answer, places_of, all_held, extents_of, release_checks, pointers_to, cue_pointers, free_each, release_cue, free_total, tally_opened, tally_counted, tally}
use Rattle.store.specs.Step.{Call, allocates, frees, moves, loads, stores, fills, copies, copies_text, allocates_for, releases}
use Rattle.history.specs.Heap.{Object, new_object, member, owner_of, inside, change, without, passing, write, copied, copied_text, text_copied, hear}
use Rattle.history.specs.History.{Configuration, begun, after, all_admitted, known}
use Rattle.history.specs.Commuting.{Commute, free_of}

-- an image of 128 bytes and a table, full of other bytes, set up at the slot exponent 6
abbrev fresh6 : Configuration
fresh6 = begun 6 (state (replicate 128 7) (replicate 60 9))

-- an object of no cue is written through a moved pointer, its bytes and then its text are copied to one of cue 9, and it is freed; the other takes a
-- number of 3 bytes; two objects of cue 2^32 - 1 are released; of two objects of no bytes the pointer of one is moved, and the other is freed; some calls
-- are refused
abbrev pub calls : List Call
calls =
    allocates 10 1
    ∷ allocates_for 4 2 9
    ∷ allocates_for 8 3 0xFFFFFFFF
    ∷ allocates_for 2 3 0xFFFFFFFF
    ∷ moves 0x8010000000000020 (pos 6)
    ∷ moves 0x8010000000000020 (pos 32)
    ∷ stores 0x8010000000000026 4 0x04030201
    ∷ stores 0x8010000000000026 8 0
    ∷ fills 0x8010000000000020 3 5
    ∷ copies 0x802A00000000003A 0x8010000000000026 4
    ∷ copies_text 0x802A00000000003A 0x8010000000000026
    ∷ copies_text 0x802A00000000003A 0x8010000000000020
    ∷ stores 0x802A00000000003A 3 0x070605
    ∷ loads 0x802A00000000003A 3
    ∷ moves 0x802A00000000003A (negsuc 0)
    ∷ loads 0x123456789 4
    ∷ allocates 1000 1
    ∷ releases 0xFFFFFFFF
    ∷ releases 0xFFFFFFFF
    ∷ frees 0x8010000000000026
    ∷ frees 0x8010000000000020
    ∷ frees 0x8010000000000020
    ∷ allocates_for 0 4 9
    ∷ allocates 0 5
    ∷ moves 0x8010000000000020 (pos 5)
    ∷ stores 0x8010000000000025 1 1
    ∷ fills 0x8010000000000020 1 1
    ∷ copies 0x8010000000000020 0x802A00000000003A 1
    ∷ copies_text 0x802A00000000003A 0x000700000000004E
    ∷ frees 0x000700000000004E
    ∷ []

-- each of them is admitted; the abstract heap is left with the second object, which holds the number and the zero byte of the text, and with one of no bytes
-- where the first was; tally counts both, the gap behind them, their headers and ten spare bytes; the free total is that of the gap; the distances are those
-- of the second object's pointer one byte before the body, and of the empty one's base
pub admitted-calls : (all_admitted calls fresh6 ≡ true)
    × ((after calls fresh6).heap ≡ record { answer = 0x802A00000000003A; size = 4; cue = 9; pointers = 0x802A000000000039 ∷ 0x802A00000000003A ∷ []; bytes = 5 ∷ 6 ∷ 7 ∷ 0 ∷ [] }
    ∷ record { answer = 0x8010000000000020; size = 0; cue = 9; pointers = 0x8010000000000025 ∷ 0x8010000000000020 ∷ []; bytes = [] } ∷ [])
    × (tally (after calls fresh6).state ≡ usage_of 2 4 66 42)
    × (free_total (after calls fresh6).state ≡ Ok 66)
    × (distances 0x802A000000000039 (after calls fresh6).state ≡ measured_as (negsuc 0) (pos 5))
    × (distances 0x8010000000000020 (after calls fresh6).state ≡ measured_as (pos 0) (pos 0))
unfolding frame_number frame_number_in unpack pack good_tag reach landed moved wrapper tag_number pointer_to tag_matches used_entries entry_at encode decode field put superblock with_total superblock_good header header_at well_formed sound walk_in walk_from walk fit_of first_fit met_of walk_to set_up_checks fresh set_up opening entry_holds fit_answer taken_extent allocate_checks carved noted allocate_for header_place verified leads_back located from_start to_end in_body accessed distances_checks distances_at distances moved_answer move_answer move load_answer load store_checks store fill_checks fill copy_checks copy text_from text_of text_answer text_at copy_text_checks copy_text merge_end merge_start released free_checks released_at total_fits totalled free_release merged freed free walk_cue gathered_answer places_of all_held extents_of release_checks pointers_to cue_pointers free_each release_cue member owner_of inside change without passing write copied copied_text text_copied hear after all_admitted known count_of count_blocks tally_opened tally_counted tally free_total
admitted-calls = (refl, refl, refl, refl, refl, refl)

-- an image of 192 bytes and a table, full of other bytes
abbrev pub lent : State
lent = state (replicate 192 7) (replicate 100 9)

-- Three neighbours, written from end to end: one of no cue, one of cue 9 and one more of no cue, both large-framed.
abbrev pub neighbours : List Call
neighbours =
    allocates 10 1
    ∷ allocates_for 20 2 9
    ∷ allocates 40 3
    ∷ fills 0x8010000000000020 10 5
    ∷ fills 0x000700000000003A 20 6
    ∷ fills 0x000800000000005E 40 7
    ∷ []

-- what they leave, set up at the slot exponent 6
abbrev pub left : Configuration
left = after neighbours (begun 6 lent)

-- one of them, in the order of allocation
abbrev pub neighbour : ℕ → Object
neighbour i = get_or left.heap i (new_object 0 0 0)

-- Any two are freed in either order; cue 0, which has two of them, and cue 9 are released in either order, and so are cue 9 and a cue without objects.
pub neighbours_commute : IsAccepted (set_up 6 lent) × (all_admitted neighbours (begun 6 lent) ≡ true) × (length left.heap ≡ 3)
    × Commute (free_of (neighbour 0)) (free_of (neighbour 1)) left.state
    × Commute (free_of (neighbour 0)) (free_of (neighbour 2)) left.state
    × Commute (free_of (neighbour 1)) (free_of (neighbour 2)) left.state
    × Commute (release_cue 0) (release_cue 9) left.state
    × Commute (release_cue 9) (release_cue 1) left.state
unfolding frame_number frame_number_in unpack pack good_tag reach wrapper tag_number pointer_to tag_matches used_entries entry_at encode decode field put superblock with_total superblock_good header header_at well_formed sound walk_in walk_from walk fit_of first_fit met_of walk_to set_up_checks fresh set_up opening entry_holds fit_answer taken_extent allocate_checks carved noted allocate_for header_place verified leads_back located in_body accessed fill_checks fill merge_end merge_start released free_checks released_at total_fits totalled free_release merged freed free walk_cue gathered_answer places_of all_held extents_of release_checks pointers_to cue_pointers free_each release_cue member owner_of inside change without passing write hear after all_admitted known
neighbours_commute = (
  refl,
  refl,
  refl,
  record { a_accepted = refl; b_accepted = refl; a_answer = refl; b_answer = refl; same = refl },
  record { a_accepted = refl; b_accepted = refl; a_answer = refl; b_answer = refl; same = refl },
  record { a_accepted = refl; b_accepted = refl; a_answer = refl; b_answer = refl; same = refl },
  record { a_accepted = refl; b_accepted = refl; a_answer = refl; b_answer = refl; same = refl },
  record { a_accepted = refl; b_accepted = refl; a_answer = refl; b_answer = refl; same = refl },
)
