-- Worked examples, computed: on an image of 1,024 bytes; of runs of bytes and of texts. Assumes nothing.
use Rattle.std.specs.Prelude.{◌≡◌, ℕ, true, false, List, [], ◌∷◌, ◌++◌, replicate, refl, None, Some}
use Rattle.block.specs.Bytes.{encode, decode, field, put}
use Rattle.block.specs.Order.{compare_bytes}
use Rattle.block.specs.Text.{text_from, text_of}
use Rattle.block.specs.Layout.{superblock, superblock_good, header, free_header, live_header, header_at, well_formed, sound}
use Rattle.block.specs.laws.Superblock.{opened}
use Rattle.block.specs.Walk.{walk_in, walk_from, walk, fit_of, first_fit, met_of, walk_to, count_of, count_blocks, unsound, ended, walk_cue}
use Rattle.std.specs.declared.cmp.Ordering.TheVariants as ordering
use Rattle.block.specs.declared.walk.Fit.TheVariants as fit

-- live blocks at 16 and 42 of sizes 10 and 20 and of cues 0 and 2^32 - 1, and a free one from 78 to the end
image : List ℕ
image =
    superblock 6 1024 946
    ++ (live_header 26 1 10 0 ++ (replicate 10 7 ++ (live_header 36 2 20 0xFFFFFFFF ++ (replicate 20 8 ++ (free_header 946 ++ replicate 930 0)))))

-- the same with an extent at 42 that is too short
damaged : List ℕ
damaged = put image 42 (encode 4 15)

-- `image` with kind k in the header at 42
of_kind : ℕ → List ℕ
of_kind k = put image 46 (encode 2 k)

-- the superblock's fields, in their order
laid : superblock 6 1024 881 ≡ 16 ∷ 0 ∷ 0 ∷ 0 ∷ 3 ∷ 0 ∷ 6 ∷ 0 ∷ 0 ∷ 4 ∷ 0 ∷ 0 ∷ 0x71 ∷ 3 ∷ 0 ∷ 0 ∷ []
unfolding superblock encode
laid = refl

opens : opened image ≡ Some 6
unfolding image superblock header encode decode field superblock_good opened
opens = refl

-- the header at 78 is sound as a free one, that at 42 as a live one alone; `unsound_kind` has 0, 3 and 65,535 with any other fields
kinds : (sound image 78 ≡ true) × (sound (of_kind 2) 42 ≡ true) × (sound (of_kind 0) 42 ≡ false) × (sound (of_kind 1) 42 ≡ false) × (sound (of_kind 3) 42 ≡ false) × (sound (of_kind 65535) 42 ≡ false)
unfolding image of_kind superblock header encode decode field put header_at well_formed sound
kinds = (refl, refl, refl, refl, refl, refl)

-- `image` with the header of an object of no bytes and that extent at h
with_none : ℕ → ℕ → List ℕ
with_none h extent = put image h (live_header extent 1 0 0)

-- such a block takes 16 to 31 bytes, and may end with the image
empties :
    (sound (with_none 16 15) 16 ≡ false) × (sound (with_none 16 16) 16 ≡ true) × (sound (with_none 16 31) 16 ≡ true) × (sound (with_none 16 32) 16 ≡ false)
    × (sound (with_none 1008 16) 1008 ≡ true) × (sound (with_none 1008 17) 1008 ≡ false)
unfolding image with_none superblock header encode decode field put header_at well_formed sound
empties = (refl, refl, refl, refl, refl, refl)

fits : (first_fit image 946 ≡ fit.At 78) × (first_fit image 947 ≡ fit.End) × (first_fit damaged 16 ≡ fit.Unsound 42)
unfolding image damaged superblock header encode decode field put header_at well_formed sound walk_in walk_from walk fit_of first_fit
fits = (refl, refl, refl)

meets : (walk_to image 16 ≡ Some 0) × (walk_to image 78 ≡ Some 42) × (walk_to image 58 ≡ None) × (walk_to damaged 78 ≡ None)
unfolding image damaged superblock header encode decode field put header_at well_formed sound walk_in walk_from walk met_of walk_to
meets = (refl, refl, refl, refl)

counts : (count_blocks image ≡ Some (record { objects = 2; live = 30; free = 946; overhead = 32 })) × (count_blocks damaged ≡ None)
unfolding image damaged superblock header encode decode field put header_at well_formed sound walk_in walk_from walk count_of count_blocks
counts = (refl, refl)

-- a cue's blocks are found among the others, whatever the four bytes say; a free header with a cue is unsound
cues :
    (walk_cue 0xFFFFFFFF image ≡ ended (42 ∷ [])) × (walk_cue 0 image ≡ ended (16 ∷ [])) × (walk_cue 1 image ≡ ended [])
    × (walk_cue 0 (put image 28 (encode 4 0xFFFFFFFF)) ≡ ended []) × (walk_cue 0xFFFFFFFF (put image 28 (encode 4 0xFFFFFFFF)) ≡ ended (16 ∷ 42 ∷ []))
    × (walk_cue 0 (put image 90 (encode 4 1)) ≡ unsound 78)
unfolding image superblock header encode decode field put header_at well_formed sound walk_in walk_from walk walk_cue
cues = (refl, refl, refl, refl, refl, refl)

-- equal runs; bytes have no sign; the first difference decides, whatever a later one says
compares :
    (compare_bytes (1 ∷ 2 ∷ 3 ∷ []) (1 ∷ 2 ∷ 3 ∷ []) ≡ ordering.Equal)
    × (compare_bytes (0x7F ∷ []) (0x80 ∷ []) ≡ ordering.Less)
    × (compare_bytes (1 ∷ 3 ∷ 0 ∷ []) (1 ∷ 2 ∷ 255 ∷ []) ≡ ordering.Greater)
unfolding compare_bytes
compares = (refl, refl, refl)

-- no byte; the zero byte first; five letters and a zero; no zero byte
texts :
    (text_of [] ≡ None)
    × (text_of (0 ∷ 72 ∷ []) ≡ Some 0)
    × (text_of (72 ∷ 101 ∷ 108 ∷ 108 ∷ 111 ∷ 0 ∷ 7 ∷ []) ≡ Some 5)
    × (text_of (72 ∷ 101 ∷ 108 ∷ 108 ∷ 111 ∷ []) ≡ None)
unfolding text_from text_of
texts = (refl, refl, refl, refl)
