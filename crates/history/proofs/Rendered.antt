-- The bytes of a layout: their lengths, the headers among them, and where each part stands. Assumes nothing.
use Rattle.std.proofs.Common.{ℕ, zero, suc, ◌+◌, ◌-◌, ◌^◌, ◌≤◌, ◌≡◌, refl, true, false, List, [], ◌++◌, length, take, drop, eqb, sym, ap, ◌∙◌, append_assoc, append-nil, arith, length-append, take-append-drop, take_at, drop_at, take-add, drop-drop}
use Rattle.std.proofs.Math.ListN.{length-replicate}
use Rattle.block.specs.Bytes.{put}
use Rattle.block.specs.laws.Writes.{take_put, drop-put}
use Rattle.block.specs.declared.header.Header.{Header}
use Rattle.block.specs.Layout.{fields, free_header, live_header, header_at, extent_at, size_at, sound, is_free, is_live}
use Rattle.block.specs.laws.Headers.{length-header, header_at-drop}
use Rattle.block.specs.laws.Soundness.{sound-free-at, sound_live_at}
use Rattle.history.proofs.Gaps.{Block, extent, headed, Layout, last, item, zeros, gap_bytes, block_bytes, render, size, GapOk, Ok}
use Rattle.history.proofs.Looks.{gap, regap, gap_long, gap_of_ok, gap_le}

-- gaps and blocks in bytes

pub gap_none : gap_bytes 0 ≡ []
unfolding gap_bytes
gap_none = refl

pub gap_some : (g : ℕ) → 1 ≤ g → gap_bytes g ≡ free_header g ++ zeros (g - 16)
unfolding gap_bytes
gap_some zero h = absurd (omega arith)
gap_some (suc g) h = refl

pub length-gap : (g : ℕ) → GapOk g → length (gap_bytes g) ≡ g
unfolding gap_bytes
length-gap zero k = refl
length-gap (suc g) k = grind (arith, length-append, length-header, length-replicate)

pub length_block : (b : Block) → length (block_bytes b) ≡ extent b
unfolding block_bytes
length_block b = simp (length-append, length-header, length-replicate)

pub length-render : (l : Layout) → Ok l → length (render l) ≡ size l
length-render (last g) k = length-gap g k
length-render (item g b l) k = simp (length-append, length-gap g k.0, length_block, length-render l k.2)

-- what stands behind the first gap
abbrev pub after : Layout → List ℕ
after (last g) = []
after (item g b l) = block_bytes b ++ render l

pub render-gap : (l : Layout) → render l ≡ gap_bytes (gap l) ++ after l
render-gap (last g) = rw append-nil
render-gap (item g b l) = refl

pub render-regap : (n : ℕ) (l : Layout) → render (regap n l) ≡ gap_bytes n ++ after l
render-regap n (last g) = rw append-nil
render-regap n (item g b l) = refl

-- a run that stands at h, and what stands behind it

-- behind the run
pub step-drop : (image : List ℕ) (h : ℕ) (b q : List ℕ) (n : ℕ) → drop h image ≡ b ++ q → length b ≡ n → drop (h + n) image ≡ q
step-drop image h b q n e k = sym (drop-drop n h image) ∙ ap (drop n) e ∙ drop_at b q n k

-- up to its end
pub step-take : (image : List ℕ) (h : ℕ) (b q : List ℕ) (n : ℕ) → drop h image ≡ b ++ q → length b ≡ n → take (h + n) image ≡ take h image ++ b
step-take image h b q n e k = take-add h n image ∙ rw (e, take_at b q n k)

-- bytes put at k, with what stands before and behind them
pub put_parts : (image : List ℕ) (k : ℕ) (bs q : List ℕ) (n : ℕ) → length bs ≡ n → k + n ≤ length image → drop (k + n) image ≡ q → put image k bs ≡ take k image ++ (bs ++ q)
put_parts image k bs q n e le d =
    sym (take-append-drop k (put image k bs)) ∙ rw (take_put image k bs (omega arith), drop-put image k bs (omega arith), e, d)

-- From h on, the image is the layout's bytes.
pub record Part (image : List ℕ) (h : ℕ) (l : Layout) : Type 0 where
  pub good : Ok l
  pub bytes : drop h image ≡ render l
  pub whole : h + size l ≡ length image
  pub short : length image ≤ 2 ^ 30
  pub low : 16 ≤ h

module _ (image : List ℕ) (h : ℕ) (l : Layout) (p : Part image h l) where
  pub part_gap : drop h image ≡ gap_bytes (gap l) ++ after l
  part_gap = p.bytes ∙ render-gap l

  pub part_after : drop (h + gap l) image ≡ after l
  part_after = step-drop image h (gap_bytes (gap l)) (after l) (gap l) part_gap (length-gap (gap l) (gap_of_ok l p.good))

  -- the free block of a gap: its bytes, its header, and what that says
  pub gap_cut : 1 ≤ gap l → drop h image ≡ free_header (gap l) ++ (zeros (gap l - 16) ++ after l)
  gap_cut wide = part_gap ∙ rw (gap_some (gap l) wide, append_assoc)

  pub gap-header : 1 ≤ gap l → header_at image h ≡ fields (gap l) 1 0 0 0
  gap-header wide =
      header_at-drop image h (gap l) 1 0 0 0 _ (gap_cut wide)
      (record {
        extent_fits = omega (arith, gap_le l, p.whole, p.short);
        kind_fits = omega arith;
        type_fits = omega arith;
        size_fits = omega arith;
        cue_fits = omega arith;
      })

  pub gap-sound : 1 ≤ gap l → sound image h ≡ true
  gap-sound wide =
      sound-free-at image h (gap l) (gap-header wide) p.low (gap_long (gap l) (gap_of_ok l p.good) wide) (omega (arith, gap_le l, p.whole))

  pub gap-free : 1 ≤ gap l → is_free image h ≡ true
  gap-free wide = ap (λ (d : Header). eqb d.kind 1) (gap-header wide)

  pub gap-not_live : 1 ≤ gap l → is_live image h ≡ false
  gap-not_live wide = ap (λ (d : Header). eqb d.kind 2) (gap-header wide)

  pub gap-extent : 1 ≤ gap l → extent_at image h ≡ gap l
  gap-extent wide = ap (λ (d : Header). d.extent) (gap-header wide)

module _ (image : List ℕ) (h g : ℕ) (b : Block) (l : Layout) (p : Part image h (item g b l)) where
  -- the first block: its bytes, its header, and what that says
  pub block_cut : drop (h + g) image ≡ live_header (extent b) b.type (length b.body) b.cue ++ (b.body ++ (zeros b.spare ++ render l))
  unfolding block_bytes
  block_cut = part_after image h (item g b l) p ∙ simp append_assoc

  pub block_header : header_at image (h + g) ≡ headed b
  block_header =
      header_at-drop image (h + g) (extent b) 2 b.type (length b.body) b.cue _ block_cut
      (record {
        extent_fits = omega (arith, p.whole, p.short);
        kind_fits = omega arith;
        type_fits = p.good.1.type_fits;
        size_fits = omega (arith, p.whole, p.short);
        cue_fits = p.good.1.cue_fits;
      })

  pub block_sound : sound image (h + g) ≡ true
  block_sound =
      sound_live_at image (h + g) (extent b) b.type (length b.body) b.cue block_header (omega (arith, p.low)) (omega (arith, p.whole)) (omega arith)
      (omega (arith, p.good.1.tight))

  pub block_not_free : is_free image (h + g) ≡ false
  block_not_free = ap (λ (d : Header). eqb d.kind 1) block_header

  pub block_extent : extent_at image (h + g) ≡ extent b
  block_extent = ap (λ (d : Header). d.extent) block_header

  pub block_size : size_at image (h + g) ≡ length b.body
  block_size = ap (λ (d : Header). d.size) block_header

  -- the rest behind it
  pub part_next : Part image (h + g + extent b) l
  part_next =
      record {
        good = p.good.2;
        bytes = step-drop image (h + g) (block_bytes b) (render l) (extent b) (part_after image h (item g b l) p) (length_block b);
        whole = omega (arith, p.whole);
        short = p.short;
        low = omega (arith, p.low);
      }

  -- bytes up to that place, with any rest
  pub over_item : (m : Layout) → take (h + g + extent b) image ++ render m ≡ take h image ++ render (item g b m)
  over_item m =
      rw (
        step-take image (h + g) (block_bytes b) (render l) (extent b) (part_after image h (item g b l) p) (length_block b),
        step-take image h (gap_bytes g) (block_bytes b ++ render l) g p.bytes (length-gap g p.good.0),
      )
      (simp append_assoc)
