-- The superblock and the block headers of an image: document 01, "The image and its lead-in" and "Blocks"; the cue, the free total and size 0: document 02, W6,
-- W7 and W9. Assumes nothing.
use Rattle.std.specs.Prelude.{ℕ, ◌+◌, ◌^◌, Bool, cond, ◌&&◌, List, ◌++◌, length, ◌==◌, nat_le}
use Rattle.block.specs.Bytes.{encode, field, put}
use Rattle.block.specs.declared.header.Header.{Header}

-- lo ≤ x ≤ hi
abbrev pub within : ℕ → ℕ → ℕ → Bool
within lo hi x = nat_le lo x && nat_le x hi

-- The superblock, document 01's "lead-in": length 16, kind 3, the slot exponent, the image's length, the free total.
unfoldable pub superblock : ℕ → ℕ → ℕ → List ℕ
superblock s L total = encode 4 16 ++ (encode 2 3 ++ (encode 2 s ++ (encode 4 L ++ encode 4 total)))

-- the slot exponent that the superblock has
abbrev pub slot_exponent : List ℕ → ℕ
slot_exponent image = field image 6 2

-- the free total that it has, in bytes
abbrev pub stored_total : List ℕ → ℕ
stored_total image = field image 12 4

-- the image with another free total
unfoldable pub with_total : List ℕ → ℕ → List ℕ
with_total image total = put image 12 (encode 4 total)

-- document 01's range of slot exponents
abbrev pub good_exponent : ℕ → Bool
good_exponent s = within 6 15 s

-- document 01's range of image lengths, in bytes
abbrev pub good_length : ℕ → Bool
good_length L = within 64 (2 ^ 30) L

-- whether the superblock is as laid out, its exponent and length in range, and its length the image's; its free total may be any
unfoldable pub superblock_good : List ℕ → Bool
superblock_good image =
    nat_le 16 (length image)
    && (field image 0 4 == 16
    && (field image 4 2 == 3
    && (good_exponent (slot_exponent image)
    && (good_length (field image 8 4) && field image 8 4 == length image))))

-- the 16 bytes of a block header: extent (header included), kind, type number, raw size, cue number
unfoldable pub header : ℕ → ℕ → ℕ → ℕ → ℕ → List ℕ
header extent kind type size cue = encode 4 extent ++ (encode 2 kind ++ (encode 2 type ++ (encode 4 size ++ encode 4 cue)))

-- the header bytes of a free block
abbrev pub free_header : ℕ → List ℕ
free_header extent = header extent 1 0 0 0

-- the header bytes of a live block
abbrev pub live_header : ℕ → ℕ → ℕ → ℕ → List ℕ
live_header extent type size cue = header extent 2 type size cue

-- the fields that such header bytes hold
abbrev pub fields : ℕ → ℕ → ℕ → ℕ → ℕ → Header
fields extent kind type size cue = record { extent = extent; kind = kind; ty = type; size = size; cue = cue }

-- the fields of the header at h
unfoldable pub header_at : List ℕ → ℕ → Header
header_at image h =
    record {
      extent = field image h 4;
      kind = field image (h + 4) 2;
      ty = field image (h + 6) 2;
      size = field image (h + 8) 4;
      cue = field image (h + 12) 4;
    }

-- bytes from the header at h to the next one
abbrev pub extent_at : List ℕ → ℕ → ℕ
extent_at image h = (header_at image h).extent

-- 1 for a free block, 2 for a live one
abbrev pub kind_at : List ℕ → ℕ → ℕ
kind_at image h = (header_at image h).kind

-- the type number that the header at h has
abbrev pub type_at : List ℕ → ℕ → ℕ
type_at image h = (header_at image h).ty

-- raw size in bytes, as it was asked for
abbrev pub size_at : List ℕ → ℕ → ℕ
size_at image h = (header_at image h).size

-- the number of the cue that a live block belongs to
abbrev pub cue_at : List ℕ → ℕ → ℕ
cue_at image h = (header_at image h).cue

-- whether the header at h is of a free block
abbrev pub is_free : List ℕ → ℕ → Bool
is_free image h = kind_at image h == 1

-- whether the header at h is of a live block
abbrev pub is_live : List ℕ → ℕ → Bool
is_live image h = kind_at image h == 2

-- a free block has type, size and cue 0
abbrev pub free_formed : Header → Bool
free_formed d = d.ty == 0 && (d.size == 0 && d.cue == 0)

-- a live block has kind 2, and an extent of its header and size and at most 15 bytes more; its size may be 0, its cue any
abbrev pub live_formed : Header → Bool
live_formed d = d.kind == 2 && (nat_le (16 + d.size) d.extent && nat_le d.extent (31 + d.size))

-- whether the header d is as it must be at h in an image of L bytes
unfoldable pub well_formed : ℕ → ℕ → Header → Bool
well_formed L h d =
    nat_le 16 d.extent && (nat_le (h + d.extent) L && cond (d.kind == 1) (free_formed d) (live_formed d))

-- whether a sound header stands at h
unfoldable pub sound : List ℕ → ℕ → Bool
sound image h = nat_le 16 h && (nat_le (h + 16) (length image) && well_formed (length image) h (header_at image h))
