-- Reading and writing the body of a block in its image. Assumes nothing.
use Rattle.std.proofs.Common.{ℕ, ◌+◌, ◌≤◌, ◌≡◌, List, ◌++◌, length, take, drop, sym, ap, ◌∙◌, append_assoc, arith, length-append, length-take, length-drop, take-append-drop, drop-drop, length-take-le}
use Rattle.std.proofs.Math.Seq.{take-append-le, drop-append-le}
use Rattle.block.specs.Bytes.{put}
use Rattle.block.specs.laws.Writes.{put-at, length-put}
use Rattle.block.specs.Layout.{live_header}
use Rattle.block.specs.laws.Headers.{length-header}
use Rattle.history.proofs.Gaps.{Block, extent, Layout, item, zeros, gap_bytes, block_bytes, render, BlockOk, Remade, patched}
use Rattle.history.proofs.Rendered.{length-gap, step-drop, step-take, put_parts, Part, part_after, block_cut}
use Rattle.history.proofs.Focus.{Focus, focus_remade}

module _ (image : List ℕ) (k g : ℕ) (b : Block) (m : Layout) (p : Part image k (item g b m)) where
  -- from a place of the body on: the rest of the body, what lies unused, the rest of the layout
  pub drop_body : (i : ℕ) → i ≤ length b.body → drop (k + g + 16 + i) image ≡ drop i b.body ++ (zeros b.spare ++ render m)
  drop_body i le =
      sym (drop-drop i (k + g + 16) image)
      ∙ ap (drop i)
      (step-drop image (k + g) (live_header (extent b) b.type (length b.body) b.cue) (b.body ++ (zeros b.spare ++ render m)) 16
      (block_cut image k g b m p) (length-header (extent b) 2 b.type (length b.body) b.cue))
      ∙ drop-append-le i b.body (zeros b.spare ++ render m) le

  -- bytes of the body, read in the image
  pub read_at : (i n : ℕ) → i + n ≤ length b.body → take n (drop (k + g + 16 + i) image) ≡ take n (drop i b.body)
  read_at i n le = grind (arith, drop_body, take-append-le, length-drop)

-- a list in three parts
split_three : (l : List ℕ) (i n : ℕ) → l ≡ take i l ++ (take n (drop i l) ++ drop (i + n) l)
split_three l i n = sym (rw (← drop-drop n i l, take-append-drop n (drop i l)) (take-append-drop i l))

-- the same bytes, cut at the body's i-th byte and cut at the block's ends
regroup : (P R : List ℕ) (b : Block) (i : ℕ) (v : List ℕ) → i + length v ≤ length b.body
    → (P ++ (live_header (extent b) b.type (length b.body) b.cue ++ take i b.body)) ++ (v ++ (drop (i + length v) b.body ++ (zeros b.spare ++ R)))
    ≡ P ++ ((live_header (extent b) b.type (length b.body) b.cue ++ (put b.body i v ++ zeros b.spare)) ++ R)
regroup P R b i v le = grind (arith, put_parts, append_assoc)

-- bytes put into a block's body, where the image is in parts
put_block : (P R : List ℕ) (t : ℕ) (b : Block) (i : ℕ) (v : List ℕ) → length P ≡ t → i + length v ≤ length b.body
    → put (P ++ (block_bytes b ++ R)) (t + 16 + i) v ≡ P ++ (block_bytes (patched b i v) ++ R)
unfolding block_bytes
put_block P R t b i v e le =
    let H : List ℕ = live_header (extent b) b.type (length b.body) b.cue in
    let old : List ℕ = take (length v) (drop i b.body) in
    let rest : List ℕ = drop (i + length v) b.body ++ (zeros b.spare ++ R) in
    let a : P ++ ((H ++ (b.body ++ zeros b.spare)) ++ R) ≡ (P ++ (H ++ take i b.body)) ++ (old ++ rest) =
    ap (λ (x : List ℕ). P ++ ((H ++ (x ++ zeros b.spare)) ++ R)) (split_three b.body i (length v)) ∙ (simp append_assoc)
    in
    let c : length (P ++ (H ++ take i b.body)) ≡ t + 16 + i = simp (length-append, length-header, length-take) (omega arith) in
    let d : length old ≡ length v = length-take-le (length v) (drop i b.body) (simp length-drop (omega arith)) in
    rw (length-put b.body i v le)
    (ap (λ (l : List ℕ). put l (t + 16 + i) v) a ∙ put-at (P ++ (H ++ take i b.body)) old rest v (t + 16 + i) c d ∙ regroup P R b i v le)

-- a write is another block in the same place
pub written : (image : List ℕ) (k g : ℕ) (b : Block) (m : Layout) → Part image k (item g b m) → (i : ℕ) (v : List ℕ) → i + length v ≤ length b.body
    → put image (k + g + 16 + i) v ≡ take k image ++ render (item g (patched b i v) m)
written image k g b m p i v le =
    let P : List ℕ = take (k + g) image in
    let front : P ≡ take k image ++ gap_bytes g = step-take image k (gap_bytes g) (block_bytes b ++ render m) g p.bytes (length-gap g p.good.0) in
    ap (λ (l : List ℕ). put l (k + g + 16 + i) v)
    (sym (take-append-drop (k + g) image) ∙ ap (λ (l : List ℕ). P ++ l) (part_after image k (item g b m) p))
    ∙ put_block P (render m) (k + g) b i v (length-take-le (k + g) image (omega (arith, p.whole))) le
    ∙ ap (λ (l : List ℕ). l ++ (block_bytes (patched b i v) ++ render m)) front
    ∙ append_assoc (take k image) (gap_bytes g) (block_bytes (patched b i v) ++ render m)

-- a write changes no length
pub patched-length : (b : Block) (i : ℕ) (v : List ℕ) → i + length v ≤ length b.body → length (patched b i v).body ≡ length b.body
patched-length b i v le = length-put b.body i v le

pub patched_ok : (b : Block) (i : ℕ) (v : List ℕ) → BlockOk b → BlockOk (patched b i v)
patched_ok b i v k = record { type_fits = k.type_fits; cue_fits = k.cue_fits; tight = k.tight }

module _ (image : List ℕ) (l : Layout) (k g : ℕ) (b : Block) (m : Layout) (f : Focus image l k (item g b m)) (i : ℕ) (v : List ℕ)
    (le : i + length v ≤ length b.body) where
  -- the image after a write, laid out with the patched block
  pub write_remade : Remade image (put image (k + g + 16 + i) v) (f.fill (item g (patched b i v) m))
  write_remade =
      focus_remade image l k (item g b m) f (item g (patched b i v) m)
      (f.part.good.0, patched_ok b i v f.part.good.1, f.part.good.2) (omega (arith, patched-length b i v le))
      (put image (k + g + 16 + i) v) (written image k g b m f.part i v le)
