-- A block of the layout is freed: its gap, its own bytes and the next gap become one gap. Assumes nothing.
use Rattle.store.specs.Calls.{merge_of}
use Rattle.std.proofs.Common.{Some, None, ℕ, zero, suc, ◌+◌, ◌-◌, ◌≤◌, ◌≡◌, refl, Bool, true, false, cond, ◌||◌, List, ◌++◌, length, take, drop, leb, eqb, sym, ap, ◌∙◌, arith, le-leb, eqb-true}
use Rattle.std.proofs.lemmas.Bool.{eqb-false}
use Rattle.block.specs.laws.Booleans.{by_bool}
use Rattle.block.specs.Layout.{free_header, sound, is_free, extent_at}
use Rattle.block.specs.Walk.{stopped, walk, reaching, walk_to}
use Rattle.block.specs.laws.Walks.{walk_stopped}
use Rattle.block.specs.laws.WalkTo.{walk_to_stopped}
use Rattle.store.specs.Calls.{released, merge_start, merge_end, merged}
use Rattle.store.specs.laws.Free.{merge_start_here, merge_start-free, merge_end_last, merge_end-free, merge_end_live, released_merges, merged_parts}
use Rattle.history.proofs.Gaps.{Block, extent, Layout, last, item, zeros, render, gaps, lookup, Remade}
use Rattle.history.proofs.Looks.{gap, regap, gap_ok, gap_le, regap_ok, regap-size, look_regap, look_before}
use Rattle.history.proofs.Rendered.{Part, part_after, part_next, gap_some, gap-free, gap-extent, render-regap, block_sound, block_not_free, block_extent}
use Rattle.history.proofs.Focus.{Crossed, cross_gap, Focus, focus_next, focus_remade, standing_first, standing_sound}

-- the merging ends with the next gap
merge_end_lem : (image : List ℕ) (h : ℕ) (l : Layout) → Part image h l → merge_end image h ≡ h + gap l
merge_end_lem image h (last zero) p = grind (arith, merge_end_last)
merge_end_lem image h (last (suc g)) p =
    merge_end-free image h (omega (arith, p.whole)) (gap-free image h (last (suc g)) p (omega arith))
    ∙ ap (λ (n : ℕ). h + n) (gap-extent image h (last (suc g)) p (omega arith))
merge_end_lem image h (item zero b l) p =
    let n : is_free image h ≡ false = ap (is_free image) (omega arith) ∙ block_not_free image h 0 b l p in
    merge_end_live image h n ∙ omega arith
merge_end_lem image h (item (suc g) b l) p =
    merge_end-free image h (omega (arith, p.whole)) (gap-free image h (item (suc g) b l) p (omega arith))
    ∙ ap (λ (n : ℕ). h + n) (gap-extent image h (item (suc g) b l) p (omega arith))

or_right : (a b : Bool) → b ≡ true → a || b ≡ true
or_right true b e = refl
or_right false b e = e

-- behind a gap's place stands nothing, or a sound header
next-sound : (image : List ℕ) (l : Layout) (k : ℕ) (m : Layout) → Focus image l k m → leb (length image) k || sound image k ≡ true
next-sound image l k m f =
    by_bool (eqb k (length image))
    (λ e. rw (le-leb (length image) k (omega (arith, eqb-true k (length image) e))))
    (λ e. or_right (leb (length image) k) (sound image k) (standing_sound image l k (standing_first image l k m f) (eqb-false k (length image) e)))

module _ (image : List ℕ) (l : Layout) (k g : ℕ) (b : Block) (m : Layout) (f : Focus image l k (item g b m)) where
  -- the walk to the block passes its gap last, or a live block, or nothing
  crossed : Crossed image k (item g b m) f.before (k + g)
  crossed = cross_gap image k (item g b m) f.before (k + g) f.part (omega arith)

  -- it stops at the block
  walked : walk (reaching (k + g)) image 0 ≡ stopped crossed.latest (k + g)
  walked = grind (arith, walk_stopped, block_sound)

  -- and so meets it
  meets : walk_to image (k + g) ≡ Some crossed.latest
  meets = walk_to_stopped image (k + g) crossed.latest walked

  -- the merging starts with the block's gap
  merge_start_lem : merge_start image crossed.latest (k + g) ≡ k
  merge_start_lem =
      by_bool (eqb g 0)
      (λ e. let z : g ≡ 0 = eqb-true g 0 e in
      ap (λ (a : ℕ). merge_start image a (k + g)) (crossed.none_there z) ∙ merge_start_here image (k + g) f.before f.settled ∙ omega arith)
      (λ e. let n : g ≡ 0 → ⊥ = eqb-false g 0 e in
      let one : 1 ≤ g = omega arith in
      ap (λ (a : ℕ). merge_start image a (k + g)) (crossed.one_there one)
      ∙ merge_start-free image (k + g) k (omega (arith, f.part.low)) (gap-free image k (item g b m) f.part one))

  -- the gap that comes of it
  abbrev pub joined : ℕ
  joined = g + extent b + gap m

  -- what free answers, what it leaves, and which blocks are left

  pub free_merges : released image (k + g) (walk_to image (k + g)) ≡ merge_of (k + g) k (k + joined)
  free_merges =
      let n : Focus image l (k + g + extent b) m = focus_next image l k g b m f in
      let e : k + g + extent b + gap m ≡ k + joined = omega arith in
      let x : extent_at image (k + g) ≡ extent b = block_extent image k g b m f.part in
      ap (released image (k + g)) meets
      ∙ released_merges image (k + g) crossed.latest (rw x (next-sound image l (k + g + extent b) m n))
      ∙ rw (x, merge_start_lem, merge_end_lem image (k + g + extent b) m n.part, e)

  free_bytes_lem : merged image k (k + joined) ≡ take k image ++ render (regap joined m)
  free_bytes_lem =
      let n : Part image (k + g + extent b) m = part_next image k g b m f.part in
      let d : k + joined - k ≡ joined = omega arith in
      let e : k + g + extent b + gap m ≡ k + joined = omega arith in
      merged_parts image k (k + joined) (omega arith) (omega (arith, n.whole, gap_le m))
      ∙ rw (d, render-regap joined m, gap_some joined (omega arith))
      (ap (λ (q : List ℕ). take k image ++ ((free_header joined ++ zeros (joined - 16)) ++ q))
      (ap (λ (i : ℕ). drop i image) (sym e) ∙ part_after image (k + g + extent b) m n))

  pub free_remade : Remade image (merged image k (k + joined)) (f.fill (regap joined m))
  free_remade =
      focus_remade image l k (item g b m) f (regap joined m)
      (regap_ok joined m (gap_ok joined (omega arith)) f.part.good.2) (omega (arith, regap-size joined m))
      (merged image k (k + joined)) free_bytes_lem

  -- the block's extent is given back to the gaps
  pub free-given : gaps (f.fill (regap joined m)) ≡ gaps l + extent_at image (k + g)
  free-given = grind (arith, block_extent)

  pub free_looks : (j : ℕ) → lookup k (regap joined m) j ≡ cond (eqb j (k + g)) None (lookup k (item g b m) j)
  unfolding lookup
  free_looks j = grind (arith, look_regap, look_before, eqb-true)
