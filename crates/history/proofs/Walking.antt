-- A walk that stops nowhere, on an image with a layout: past a gap, and past the block behind it. Assumes nothing.
use Rattle.std.proofs.Common.{ℕ, ◌+◌, ◌≡◌, false, List, arith}
use Rattle.block.specs.Layout.{fields}
use Rattle.block.specs.Walk.{Search, walk_from}
use Rattle.block.specs.laws.Walks.{walk-next}
use Rattle.block.specs.declared.header.Header.{Header}
use Rattle.history.proofs.Gaps.{Block, extent, headed, Layout, item}
use Rattle.history.proofs.Looks.{gap}
use Rattle.history.proofs.Rendered.{Part, gap-header, gap-sound, block_header, block_sound}

module _ {A : Type 0} (s : Search A) (never : (h : ℕ) (d : Header) → s.stops h d ≡ false) (image : List ℕ) where
  -- past a gap: what is gathered is b, whether there is a free block or none
  pub pass_gap : (h : ℕ) (l : Layout) (a b : A) → Part image h l → (gap l ≡ 0 → a ≡ b) → s.passes a h (fields (gap l) 1 0 0 0) ≡ b
      → walk_from s image a h ≡ walk_from s image b (h + gap l)
  pass_gap h l a b p none some = grind (arith, walk-next, gap-sound, gap-header)

  -- past a block
  pub pass_block : (h g : ℕ) (b : Block) (l : Layout) (a : A) → Part image h (item g b l)
      → walk_from s image a (h + g) ≡ walk_from s image (s.passes a (h + g) (headed b)) (h + g + extent b)
  pass_block h g b l a p = grind (arith, walk-next, block_sound, block_header)
