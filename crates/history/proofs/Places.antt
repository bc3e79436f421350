-- What holds at every place that the walk over a layout's image comes to. Assumes nothing.
use Rattle.std.proofs.Common.{None, Option, Some, Err, ℕ, ◌+◌, ◌-◌, ◌≤◌, ◌<◌, ◌≡◌, true, false, List, ◌++◌, length, drop, get_or, ap, ◌∙◌, arith, get_or-drop}
use Rattle.std.proofs.lemmas.Grind.{common_steps}
use Rattle.std.proofs.Math.ListN.{length-replicate, get_or-replicate, get_or-append}
use Rattle.std.proofs.Math.Seq.{drop-length}
use Rattle.block.specs.laws.Booleans.{true_false}
use Rattle.block.specs.Layout.{free_header, sound, is_free, is_live, extent_at, size_at}
use Rattle.block.specs.laws.Headers.{length-header}
use Rattle.block.specs.laws.Soundness.{sound_in}
use Rattle.block.specs.Walk.{walk_to}
use Rattle.block.specs.laws.WalkTo.{MeetsBlock, walk_to_meets}
use Rattle.store.specs.Calls.{released}
use Rattle.store.specs.laws.Free.{released_lost}
use Rattle.store.specs.declared.answer.Refusal.TheVariants.{Unsound}
use Rattle.history.proofs.Gaps.{Block, extent, Layout, last, item, zeros, render, block_at, Placed}
use Rattle.history.proofs.Looks.{gap, look_first, clash}
use Rattle.history.proofs.Rendered.{Part, after, step-drop, gap_cut, gap-not_live, gap-extent, block_not_free, block_extent, block_size}
use Rattle.history.proofs.Focus.{Standing, a_gap, a_block, the_end, standing}
use Rattle.history.proofs.Bodies.{drop_body}

-- a byte of a run of zeros that stands at h
zero_at : (image : List ℕ) (h n : ℕ) (q : List ℕ) → drop h image ≡ zeros n ++ q → (j : ℕ) → j < n → get_or image (h + j) 0 ≡ 0
zero_at image h n q e j lt = grind (arith, get_or-drop, get_or-append, length-replicate, get_or-replicate)

-- in the free block of a gap
pub gap_zero : (image : List ℕ) (h : ℕ) (l : Layout) → Part image h l → 1 ≤ gap l → (i : ℕ) → 16 ≤ i → i < gap l → get_or image (h + i) 0 ≡ 0
gap_zero image h l p wide i low high =
    let e : h + i ≡ h + 16 + (i - 16) = omega arith in
    ap (λ (n : ℕ). get_or image n 0) e
    ∙ zero_at image (h + 16) (gap l - 16) (after l)
    (step-drop image h (free_header (gap l)) (zeros (gap l - 16) ++ after l) 16 (gap_cut image h l p wide) (length-header (gap l) 1 0 0 0))
    (i - 16) (omega arith)

-- behind the body of a block
pub spare_zero : (image : List ℕ) (h g : ℕ) (b : Block) (l : Layout) → Part image h (item g b l)
    → (i : ℕ) → 16 + length b.body ≤ i → i < extent b → get_or image (h + g + i) 0 ≡ 0
spare_zero image h g b l p i low high =
    let e : h + g + i ≡ h + g + 16 + length b.body + (i - (16 + length b.body)) = omega arith in
    ap (λ (n : ℕ). get_or image n 0) e
    ∙ zero_at image (h + g + 16 + length b.body) b.spare (render l)
    (drop_body image h g b l p (length b.body) (omega arith) ∙ ap (λ (x : List ℕ). x ++ (zeros b.spare ++ render l)) (drop-length b.body))
    (i - (16 + length b.body)) (omega arith)

module _ (image : List ℕ) (l : Layout) where
  -- behind a free block stands no other
  pub standing_neighbours : (h : ℕ) → Standing image l h → h < length image → is_free image h ≡ true
      → h + extent_at image h < length image → is_free image (h + extent_at image h) ≡ false
  standing_neighbours _ (a_gap k (last g) f wide) lt r in-it = absurd (omega (arith, gap-extent image k (last g) f.part wide, f.part.whole))
  standing_neighbours _ (a_gap k (item g b m) f wide) lt r in-it =
      ap (λ (n : ℕ). is_free image (k + n)) (gap-extent image k (item g b m) f.part wide) ∙ block_not_free image k g b m f.part
  standing_neighbours _ (a_block k g b m f) lt r in-it = grind (arith, block_not_free)
  standing_neighbours _ the_end lt r in-it = absurd (omega arith)

  -- a free block's bytes are zero behind its header, a live one's behind its body

  pub standing_free_zero : (h : ℕ) → Standing image l h → h < length image → is_free image h ≡ true
      → (i : ℕ) → 16 ≤ i → i < extent_at image h → get_or image (h + i) 0 ≡ 0
  standing_free_zero _ (a_gap k m f wide) lt r i low high = grind (arith, common_steps, gap_zero, gap-extent)
  standing_free_zero _ (a_block k g b m f) lt r i low high = grind (arith, block_not_free)
  standing_free_zero _ the_end lt r i low high = absurd (omega arith)

  pub standing_tail_zero : (h : ℕ) → Standing image l h → h < length image → is_live image h ≡ true
      → (i : ℕ) → 16 + size_at image h ≤ i → i < extent_at image h → get_or image (h + i) 0 ≡ 0
  standing_tail_zero _ (a_gap k m f wide) lt r i low high = absurd (true_false r (gap-not_live image k m f.part wide))
  standing_tail_zero _ (a_block k g b m f) lt r i low high = grind (arith, spare_zero, block_size, block_extent)
  standing_tail_zero _ the_end lt r i low high = absurd (omega arith)

  -- a live header on the walk is a block of the layout
  pub standing_looked : (h : ℕ) → Standing image l h → block_at l h ≡ None → sound image h ≡ true → is_live image h ≡ true → ⊥
  standing_looked _ (a_gap k m f wide) e o r = true_false r (gap-not_live image k m f.part wide)
  standing_looked _ (a_block k g b m f) e o r = grind (arith, common_steps, clash, look_first)
  standing_looked _ the_end e o r = omega (arith, sound_in image (length image) o)

  -- where the layout has no block, a live header is not met, and a free of it is refused
  pub not_met : Placed image l → (h : ℕ) → block_at l h ≡ None → is_live image h ≡ true → (w : Option ℕ) → walk_to image h ≡ w
      → released image h w ≡ Err Unsound
  not_met p h e r (Some before) q =
      let m : MeetsBlock image h before = walk_to_meets image h before q in
      absurd (standing_looked h (standing image l p h m.on_walk) e m.is_sound r)
  not_met p h e r None q = released_lost image h
