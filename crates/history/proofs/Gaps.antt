-- The layout of an image's blocks: gaps and live blocks, in the order of their places. Assumes nothing.
use Rattle.std.specs.Prelude.{Option, None, Some, ℕ, zero, suc, ◌+◌, ◌-◌, ◌^◌, ◌≤◌, ◌<◌, ◌≡◌, cond, List, [], ◌++◌, ◌⊎◌, length, take, drop, replicate, eqb}
use Rattle.block.specs.Bytes.{put}
use Rattle.block.specs.Layout.{free_header, live_header, fields}
use Rattle.block.specs.declared.header.Header.{Header}
use Rattle.block.specs.declared.walk.Counts.{Counts}

-- A live block: its type number, its cue, its body and how many bytes lie unused behind that.
pub record Block : Type 0 where
  pub type : ℕ
  pub cue : ℕ
  pub body : List ℕ
  pub spare : ℕ

-- bytes of a block, header included
abbrev pub extent : Block → ℕ
extent b = 16 + (length b.body + b.spare)

-- the fields of its header
abbrev pub headed : Block → Header
headed b = fields (extent b) 2 b.type (length b.body) b.cue

-- The gap before each live block, and the gap behind the last one.
pub data Layout : Type 0 where
  last : ℕ → Layout
  item : ℕ → Block → Layout → Layout

abbrev pub zeros : ℕ → List ℕ
zeros n = replicate n 0

-- a gap is nothing, or one free block of zeros
unfoldable pub gap_bytes : ℕ → List ℕ
gap_bytes zero = []
gap_bytes (suc g) = free_header (suc g) ++ zeros (suc g - 16)

unfoldable pub block_bytes : Block → List ℕ
block_bytes b = live_header (extent b) b.type (length b.body) b.cue ++ (b.body ++ zeros b.spare)

-- the bytes behind the superblock
abbrev pub render : Layout → List ℕ
render (last g) = gap_bytes g
render (item g b l) = gap_bytes g ++ (block_bytes b ++ render l)

abbrev pub size : Layout → ℕ
size (last g) = g
size (item g b l) = g + (extent b + size l)

-- how many live blocks it has
abbrev pub blocks : Layout → ℕ
blocks (last g) = 0
blocks (item g b l) = 1 + blocks l

-- the bytes of their bodies
abbrev pub bodies : Layout → ℕ
bodies (last g) = 0
bodies (item g b l) = length b.body + bodies l

-- the bytes of its gaps
abbrev pub gaps : Layout → ℕ
gaps (last g) = g
gaps (item g b l) = g + gaps l

-- the bytes of live headers, and the spare bytes
abbrev pub overheads : Layout → ℕ
overheads (last g) = 0
overheads (item g b l) = 16 + b.spare + overheads l

-- what a count of its blocks gives
abbrev pub counts : Layout → Counts
counts l = record { objects = blocks l; live = bodies l; free = gaps l; overhead = overheads l }

-- a gap has room for a header
abbrev pub GapOk : ℕ → Type 0
GapOk zero = Unit {0}
GapOk (suc g) = 16 ≤ suc g

pub record BlockOk (b : Block) : Type 0 where
  pub type_fits : b.type < 2 ^ 16
  pub cue_fits : b.cue < 2 ^ 32
  pub tight : b.spare ≤ 15

abbrev pub Ok : Layout → Type 0
Ok (last g) = GapOk g
Ok (item g b l) = GapOk g × BlockOk b × Ok l

-- the live block at place k of a layout that starts at h
unfoldable pub lookup : ℕ → Layout → ℕ → Option Block
lookup h (last g) k = None
lookup h (item g b l) k = cond (eqb k (h + g)) (Some b) (lookup (h + g + extent b) l k)

-- the live block at place k of an image
abbrev pub block_at : Layout → ℕ → Option Block
block_at l k = lookup 16 l k

-- The image is a superblock's 16 bytes and the layout's.
pub record Placed (image : List ℕ) (l : Layout) : Type 0 where
  pub good : Ok l
  pub bytes : drop 16 image ≡ render l
  pub whole : 16 + size l ≡ length image
  pub short : length image ≤ 2 ^ 30

-- Another image with the same superblock and length, laid out by `next`.
pub record Remade (image after : List ℕ) (next : Layout) : Type 0 where
  pub placed : Placed after next
  pub same_length : length after ≡ length image
  pub same_front : take 16 after ≡ take 16 image

-- n bytes from a on lie behind the superblock and outside every live block
pub record Clear (image : List ℕ) (l : Layout) (a n : ℕ) : Type 0 where
  pub low : 16 ≤ a
  pub high : a + n ≤ length image
  pub apart : (h : ℕ) (b : Block) → block_at l h ≡ Some b → (h + extent b ≤ a) ⊎ (a + n ≤ h)

-- the block with bytes of its body replaced
abbrev pub patched : Block → ℕ → List ℕ → Block
patched b i bytes = record { type = b.type; cue = b.cue; body = put b.body i bytes; spare = b.spare }
