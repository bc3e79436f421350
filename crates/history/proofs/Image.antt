-- What the definitions over bytes come to on an image with a layout. Assumes nothing.
use Rattle.store.specs.Calls.{merge_of}
use Rattle.std.proofs.Common.{Some, Err, None, ℕ, ◌+◌, ◌-◌, ◌^◌, ◌≤◌, ◌<◌, ◌≡◌, refl, true, false, cond, List, length, take, drop, replicate, get_or, eqb, arith}
use Rattle.block.specs.Bytes.{put}
use Rattle.block.specs.Layout.{header_at, sound, is_free, is_live, extent_at, size_at}
use Rattle.block.specs.Walk.{first_fit, walk_to, count_blocks, OnWalk}
use Rattle.block.specs.declared.walk.Fit.TheVariants as fit
use Rattle.store.specs.Calls.{fresh, taken_extent, carved, released, merged}
use Rattle.store.specs.declared.answer.Refusal.TheVariants.{Unsound}
use Rattle.history.proofs.Gaps.{Block, extent, headed, Layout, last, item, gaps, block_at, BlockOk, counts, Placed, Remade, Clear, patched}
use Rattle.history.proofs.Looks.{gap, regap, gaps_le, look_apart, look_swap}
use Rattle.history.proofs.Rendered.{block_header, block_sound}
use Rattle.history.proofs.Focus.{Focus, Found, found, find, standing}
use Rattle.history.proofs.Bodies.{read_at, write_remade, patched-length}
use Rattle.history.proofs.Places.{standing_neighbours, standing_free_zero, standing_tail_zero, not_met}
use Rattle.history.proofs.Counting.{count_layout}
use Rattle.history.proofs.Fresh.{fresh-placed}
use Rattle.history.proofs.Fitting.{new, placed_in, carve_remade, carve_taken, carve_looks, carve_vacant, carve_clear, FirstFit, at, nowhere, first_fit_lem}
use Rattle.history.proofs.Freeing.{joined, free_merges, free_remade, free-given, free_looks}

-- a live block of the layout, in the image
pub record LiveAt (image : List ℕ) (h : ℕ) (b : Block) : Type 0 where
  pub is_sound : sound image h ≡ true
  pub header : header_at image h ≡ headed b
  pub low : 16 ≤ h
  pub high : h + extent b ≤ length image
  pub okay : BlockOk b

pub live_at : (image : List ℕ) (l : Layout) (h : ℕ) (b : Block) → Placed image l → block_at l h ≡ Some b → LiveAt image h b
live_at image l h b p e = go h (find image l h b p e)
  where
    go : (h : ℕ) → Found image l b h → LiveAt image h b
    go _ (found k g m f) =
        record {
          is_sound = block_sound image k g b m f.part;
          header = block_header image k g b m f.part;
          low = omega (arith, f.part.low);
          high = omega (arith, f.part.whole);
          okay = f.part.good.1;
        }

-- two live blocks do not overlap
pub apart : (l : Layout) (h k : ℕ) (b c : Block) → block_at l h ≡ Some b → block_at l k ≡ Some c → h < k → h + extent b ≤ k
apart l h k b c e f lt = look_apart 16 l h k b c e f lt

-- a read gives bytes of the body
pub read_body : (image : List ℕ) (l : Layout) (h : ℕ) (b : Block) → Placed image l → block_at l h ≡ Some b
    → (i n : ℕ) → i + n ≤ length b.body → take n (drop (h + 16 + i) image) ≡ take n (drop i b.body)
read_body image l h b p e i n f = go h (find image l h b p e)
  where
    go : (h : ℕ) → Found image l b h → take n (drop (h + 16 + i) image) ≡ take n (drop i b.body)
    go _ (found k g m r) = read_at image k g b m r.part i n f

-- a write changes the body
pub record Rewritten (image : List ℕ) (l : Layout) (h : ℕ) (b after : Block) (image' : List ℕ) : Type 0 where
  pub next : Layout
  pub remade : Remade image image' next
  pub same_gaps : gaps next ≡ gaps l
  pub looks : (k : ℕ) → block_at next k ≡ cond (eqb k h) (Some after) (block_at l k)

pub write_body : (image : List ℕ) (l : Layout) (h : ℕ) (b : Block) → Placed image l → block_at l h ≡ Some b
    → (i : ℕ) (bytes : List ℕ) → i + length bytes ≤ length b.body → Rewritten image l h b (patched b i bytes) (put image (h + 16 + i) bytes)
write_body image l h b p e i bytes f = go h (find image l h b p e)
  where
    go : (h : ℕ) → Found image l b h → Rewritten image l h b (patched b i bytes) (put image (h + 16 + i) bytes)
    go _ (found k g m r) =
        record {
          next = r.fill (item g (patched b i bytes) m);
          remade = write_remade image l k g b m r i bytes f;
          same_gaps = omega (arith, r.free_bytes_lem (item g (patched b i bytes) m));
          looks = r.looks (item g (patched b i bytes) m) (k + g) (Some (patched b i bytes)) (omega arith)
              (look_swap k g b (patched b i bytes) m (omega (arith, patched-length b i bytes f)));
        }

-- first fit finds a gap, or there is no clear run; on a layout it never meets an unsound header
pub record Carved (image : List ℕ) (l : Layout) (n type cue h : ℕ) : Type 0 where
  pub found : first_fit image (16 + n) ≡ fit.At h
  pub clear : Clear image l h (16 + n)
  pub vacant : block_at l h ≡ None
  pub block : Block
  pub zeroed : block.body ≡ replicate n 0
  pub for_cue : block.cue ≡ cue
  pub next : Layout
  pub remade : Remade image (carved image h n type cue) next
  pub taken : gaps next + taken_extent image h n ≡ gaps l
  pub looks : (k : ℕ) → block_at next k ≡ cond (eqb k h) (Some block) (block_at l k)

pub data Fitted (image : List ℕ) (l : Layout) (n type cue : ℕ) : Type 0 where
  room : (h : ℕ) → Carved image l n type cue h → Fitted image l n type cue
  full : first_fit image (16 + n) ≡ fit.End → ((a : ℕ) → Clear image l a (16 + n) → ⊥) → Fitted image l n type cue

pub fitted : (image : List ℕ) (l : Layout) → Placed image l → (n type cue : ℕ) → type < 2 ^ 16 → cue < 2 ^ 32 → Fitted image l n type cue
fitted image l p n type cue fits cue_fits = go (first_fit_lem image l p (16 + n) (omega arith))
  where
    go : FirstFit image l (16 + n) → Fitted image l n type cue
    go (at h e r) =
        let m : Layout = r.rest in
        let f : Focus image l h m = r.focus in
        room h
        (record {
          found = e;
          clear = carve_clear image l h m f n type cue r.room;
          vacant = carve_vacant image l h m f n type cue r.room;
          block = new n type cue (gap m);
          zeroed = refl;
          for_cue = refl;
          next = f.fill (placed_in n type cue m);
          remade = carve_remade image l h m f n type cue r.room fits cue_fits;
          taken = carve_taken image l h m f n type cue r.room;
          looks = f.looks (placed_in n type cue m) h (Some (new n type cue (gap m))) (omega arith) (carve_looks image l h m f n type cue r.room);
        })
    go (nowhere e c) = full e c

-- a free of a live block of the layout
pub record Freed (image : List ℕ) (l : Layout) (h : ℕ) (b : Block) : Type 0 where
  pub from : ℕ
  pub to : ℕ
  pub merges : released image h (walk_to image h) ≡ merge_of h from to
  pub next : Layout
  pub remade : Remade image (merged image from to) next
  pub given : gaps next ≡ gaps l + extent_at image h
  pub looks : (k : ℕ) → block_at next k ≡ cond (eqb k h) None (block_at l k)

pub freed : (image : List ℕ) (l : Layout) (h : ℕ) (b : Block) → Placed image l → block_at l h ≡ Some b → Freed image l h b
freed image l h b p e = go h (find image l h b p e)
  where
    go : (h : ℕ) → Found image l b h → Freed image l h b
    go _ (found k g m f) =
        record {
          from = k;
          to = k + joined image l k g b m f;
          merges = free_merges image l k g b m f;
          next = f.fill (regap (joined image l k g b m f) m);
          remade = free_remade image l k g b m f;
          given = free-given image l k g b m f;
          looks = f.looks (regap (joined image l k g b m f) m) (k + g) None (omega arith) (free_looks image l k g b m f);
        }

-- a free of any other place where a live header stands, as one forged inside a body: the walk does not meet it
pub not-freed : (image : List ℕ) (l : Layout) (h : ℕ) → Placed image l → block_at l h ≡ None → is_live image h ≡ true → sound image h ≡ true
    → released image h (walk_to image h) ≡ Err Unsound
not-freed image l h p e live so = not_met image l p h e live (walk_to image h) refl

-- a fresh image is one gap
pub placed-fresh : (s L : ℕ) → 64 ≤ L → L ≤ 2 ^ 30 → Placed (fresh s L) (last (L - 16))
placed-fresh s L low high = fresh-placed s L low high

-- a count of the blocks gives the layout's counts
pub counted_as : (image : List ℕ) (l : Layout) → Placed image l → count_blocks image ≡ Some (counts l)
counted_as image l p = count_layout image l p

-- the gaps lie behind the superblock
pub gaps_in : (image : List ℕ) (l : Layout) → Placed image l → 16 + gaps l ≤ length image
gaps_in image l p = omega (arith, gaps_le l, p.whole)

-- no two free blocks are neighbours
pub no_neighbours : (image : List ℕ) (l : Layout) → Placed image l → (h : ℕ) → OnWalk image h → h < length image → is_free image h ≡ true
    → h + extent_at image h < length image → is_free image (h + extent_at image h) ≡ false
no_neighbours image l p h w lt f = standing_neighbours image l h (standing image l p h w) lt f

-- the body of a free block, and what lies unused behind the body of a live one, is zero
pub free_zero : (image : List ℕ) (l : Layout) → Placed image l → (h : ℕ) → OnWalk image h → h < length image → is_free image h ≡ true
    → (i : ℕ) → 16 ≤ i → i < extent_at image h → get_or image (h + i) 0 ≡ 0
free_zero image l p h w lt f i = standing_free_zero image l h (standing image l p h w) lt f i

pub tail_zero : (image : List ℕ) (l : Layout) → Placed image l → (h : ℕ) → OnWalk image h → h < length image → is_live image h ≡ true
    → (i : ℕ) → 16 + size_at image h ≤ i → i < extent_at image h → get_or image (h + i) 0 ≡ 0
tail_zero image l p h w lt f i = standing_tail_zero image l h (standing image l p h w) lt f i
