-- A place of a layout in its image: a gap's start, seen with the layout from there on.
-- In order: the walk past a gap and a block; the view itself, the whole, the next one, another rest; what stands at a place. Assumes nothing.
use Rattle.std.proofs.Common.{Option, Some, ℕ, zero, suc, ◌+◌, ◌≤◌, ◌<◌, ◌≡◌, refl, true, false, cond, ◌&&◌, List, ◌++◌, length, take, drop, ltb, eqb, sym, ap, ◌∙◌, subst, arith, add-zero, length-append, take_at, drop_at, length-take-le, eqb-true, ltb-true, ltb-false}
use Rattle.std.proofs.lemmas.Bool.{lt-leb}
use Rattle.std.proofs.Math.Bool.{and-false}
use Rattle.block.specs.laws.Booleans.{by_bool, true_false}
use Rattle.block.specs.Layout.{extent_at, is_free, sound}
use Rattle.block.specs.laws.Soundness.{sound_in}
use Rattle.block.specs.Walk.{walk_from, walk, reaching, OnWalk, first, next}
use Rattle.block.specs.laws.Walks.{MeetsUnsound, walk_begins, walk-next}
use Rattle.history.proofs.Gaps.{Block, extent, Layout, last, item, render, size, gaps, Ok, lookup, block_at, Placed, Remade}
use Rattle.history.proofs.Looks.{gap, look_rest, look_inside, look_early, look_under, clash}
use Rattle.history.proofs.Rendered.{Part, length-render, gap-sound, gap-extent, block_sound, block_not_free, block_extent, part_next, over_item}

-- the walk passes a gap
pub walk-over-gap : (image : List ℕ) (h : ℕ) (l : Layout) → Part image h l → OnWalk image h → OnWalk image (h + gap l)
walk-over-gap image h l p w = go (gap l) refl
  where
    go : (g : ℕ) → gap l ≡ g → OnWalk image (h + g)
    go zero e = subst (OnWalk image) (sym (add-zero h)) w
    go (suc g) e = subst (OnWalk image) (ap (λ (n : ℕ). h + n) (gap-extent image h l p (omega arith) ∙ e)) (next h w (gap-sound image h l p (omega arith)))

-- and the block behind it
pub walk-over_block : (image : List ℕ) (h g : ℕ) (b : Block) (l : Layout) → Part image h (item g b l) → OnWalk image h → OnWalk image (h + g + extent b)
walk-over_block image h g b l p w =
    subst (OnWalk image) (ap (λ (n : ℕ). h + g + n) (block_extent image h g b l p))
    (next (h + g) (walk-over-gap image h (item g b l) p w) (block_sound image h g b l p))

-- the walk to a place behind the gap comes by its end; the last block passed then is the gap's, if there is one
pub record Crossed (image : List ℕ) (h : ℕ) (l : Layout) (a t : ℕ) : Type 0 where
  pub latest : ℕ
  pub none_there : gap l ≡ 0 → latest ≡ a
  pub one_there : 1 ≤ gap l → latest ≡ h
  pub onward : walk_from (reaching t) image a h ≡ walk_from (reaching t) image latest (h + gap l)

pub cross_gap : (image : List ℕ) (h : ℕ) (l : Layout) (a t : ℕ) → Part image h l → h + gap l ≤ t → Crossed image h l a t
cross_gap image h l a t p le = go (gap l) refl
  where
    go : (g : ℕ) → gap l ≡ g → Crossed image h l a t
    go zero e =
        record {
          latest = a;
          none_there = λ q. refl;
          one_there = λ q. absurd (omega arith);
          onward = ap (walk_from (reaching t) image a) (omega arith);
        }
    go (suc g) e =
        record {
          latest = h;
          none_there = λ q. absurd (omega arith);
          one_there = λ q. refl;
          onward =
              walk-next (reaching t) image a h (gap-sound image h l p (omega arith)) (lt-leb t h (omega arith))
              ∙ ap (λ (n : ℕ). walk_from (reaching t) image h (h + n)) (gap-extent image h l p (omega arith));
        }

-- The layout l of an image, seen from the place k on, where m is left of it: how the walk comes there, and what l becomes with another
-- rest in m's place.
pub record Focus (image : List ℕ) (l : Layout) (k : ℕ) (m : Layout) : Type 0 where
  pub placed : Placed image l
  pub part : Part image k m
  pub on_walk : OnWalk image k
  -- the block that ends at k: none (0), or not a free one
  pub before : ℕ
  pub settled : ltb 0 before && is_free image before ≡ false
  pub reach : (t : ℕ) → k ≤ t → walk_from (reaching t) image before k ≡ walk (reaching t) image 0
  pub fill : Layout → Layout
  pub okay : (n : Layout) → Ok n → Ok (fill n)
  pub same : (n : Layout) → size n ≡ size m → size (fill n) ≡ size l
  pub free_bytes_lem : (n : Layout) → gaps (fill n) + gaps m ≡ gaps l + gaps n
  pub built : (n : Layout) → take k image ++ render n ≡ take 16 image ++ render (fill n)
  pub looks : (n : Layout) (t : ℕ) (x : Option Block) → k ≤ t → ((j : ℕ) → lookup k n j ≡ cond (eqb j t) x (lookup k m j))
      → (j : ℕ) → block_at (fill n) j ≡ cond (eqb j t) x (block_at l j)
  pub looked : (j : ℕ) → k ≤ j → block_at l j ≡ lookup k m j
  pub earlier : (j : ℕ) (c : Block) → j < k → block_at l j ≡ Some c → j + extent c ≤ k

-- the whole
pub focus_whole : (image : List ℕ) (l : Layout) → Placed image l → Focus image l 16 l
focus_whole image l p =
    record {
      placed = p;
      part = record { good = p.good; bytes = p.bytes; whole = p.whole; short = p.short; low = omega arith };
      on_walk = first;
      before = 0;
      settled = refl;
      reach = λ t le. walk_begins (reaching t) image 0;
      fill = λ n. n;
      okay = λ n k. k;
      same = λ n e. e;
      free_bytes_lem = λ n. omega arith;
      built = λ n. refl;
      looks = λ n t x le e. e;
      looked = λ j le. refl;
      earlier = λ j c lt e. absurd (omega (arith, look_inside 16 l j c e));
    }

-- past a gap and a block
pub focus_next : (image : List ℕ) (l : Layout) (k g : ℕ) (b : Block) (m : Layout) → Focus image l k (item g b m) → Focus image l (k + g + extent b) m
focus_next image l k g b m f =
    record {
      placed = f.placed;
      part = part_next image k g b m f.part;
      on_walk = walk-over_block image k g b m f.part f.on_walk;
      before = k + g;
      settled = rw (block_not_free image k g b m f.part) (and-false (ltb 0 (k + g)));
      reach = λ t le.
          let c : Crossed image k (item g b m) f.before t = cross_gap image k (item g b m) f.before t f.part (omega arith) in
          ap (λ (n : ℕ). walk_from (reaching t) image (k + g) (k + g + n)) (sym (block_extent image k g b m f.part))
          ∙ sym (walk-next (reaching t) image c.latest (k + g) (block_sound image k g b m f.part) (lt-leb t (k + g) (omega arith)))
          ∙ sym c.onward
          ∙ f.reach t (omega arith);
      fill = λ n. f.fill (item g b n);
      okay = λ n o. f.okay (item g b n) (f.part.good.0, f.part.good.1, o);
      same = λ n e. f.same (item g b n) (omega arith);
      free_bytes_lem = λ n. omega (arith, f.free_bytes_lem (item g b n));
      built = λ n. over_item image k g b m f.part n ∙ f.built (item g b n);
      looks = λ n t x le e. f.looks (item g b n) t x (omega arith) (look_under k g b m n t x (omega arith) e);
      looked = λ j le. f.looked j (omega arith) ∙ look_rest k g b m j (λ q. omega arith);
      earlier = λ j c lt e.
          by_bool (ltb j k)
          (λ q. omega (arith, f.earlier j c (ltb-true j k q) e))
          (λ q. look_early k g b m j c lt (sym (f.looked j (ltb-false j k q)) ∙ e));
    }

-- another rest of the same size is another layout of an image of the same length
pub focus_remade : (image : List ℕ) (l : Layout) (k : ℕ) (m : Layout) (f : Focus image l k m) (n : Layout) → Ok n → size n ≡ size m
    → (image' : List ℕ) → image' ≡ take k image ++ render n → Remade image image' (f.fill n)
focus_remade image l k m f n o e image' i =
    let q : image' ≡ take 16 image ++ render (f.fill n) = i ∙ f.built n in
    let s : length (take 16 image) ≡ 16 = length-take-le 16 image (omega (arith, f.placed.whole)) in
    let r : length (render (f.fill n)) ≡ size l = length-render (f.fill n) (f.okay n o) ∙ f.same n e in
    let len : length image' ≡ length image = ap length q ∙ length-append (take 16 image) (render (f.fill n)) ∙ omega (arith, f.placed.whole) in
    record {
      placed =
          record {
            good = f.okay n o;
            bytes = ap (drop 16) q ∙ drop_at (take 16 image) (render (f.fill n)) 16 s;
            whole = omega (arith, f.same n e, f.placed.whole);
            short = omega (arith, f.placed.short);
          };
      same_length = len;
      same_front = ap (take 16) q ∙ take_at (take 16 image) (render (f.fill n)) 16 s;
    }

-- a block of the layout, in view
pub data Found (image : List ℕ) (l : Layout) (b : Block) : ℕ → Type 0 where
  found : (k g : ℕ) (m : Layout) → Focus image l k (item g b m) → Found image l b (k + g)

-- by the layout from k on
find-from : (image : List ℕ) (l : Layout) (k : ℕ) (m : Layout) (h : ℕ) (b : Block) → Focus image l k m → lookup k m h ≡ Some b → Found image l b h
unfolding lookup
find-from image l k (last g) h b f e = absurd (clash b e)
find-from image l k (item g a m) h b f e =
    by_bool (eqb h (k + g))
    (λ p. let r : a ≡ b = cc in
    subst (Found image l b) (sym (eqb-true h (k + g) p)) (found k g m (subst (λ (x : Block). Focus image l k (item g x m)) r f)))
    (λ p. find-from image l (k + g + extent a) m h b (focus_next image l k g a m f) (rw p at e))

-- every block of the layout comes into view
pub find : (image : List ℕ) (l : Layout) (h : ℕ) (b : Block) → Placed image l → block_at l h ≡ Some b → Found image l b h
find image l h b p e = find-from image l 16 l h b (focus_whole image l p) e

-- what stands at a place of the walk
pub data Standing (image : List ℕ) (l : Layout) : ℕ → Type 0 where
  a_gap : (k : ℕ) (m : Layout) → Focus image l k m → 1 ≤ gap m → Standing image l k
  a_block : (k g : ℕ) (b : Block) (m : Layout) → Focus image l k (item g b m) → Standing image l (k + g)
  the_end : Standing image l (length image)

module _ (image : List ℕ) (l : Layout) where
  -- behind a gap: a block, or the image's end
  standing_behind : (k : ℕ) (m : Layout) → Focus image l k m → Standing image l (k + gap m)
  standing_behind k (last g) f = subst (Standing image l) (sym f.part.whole) the_end
  standing_behind k (item g b m) f = a_block k g b m f

  -- at a gap's place: its free block, or what stands behind where it has no bytes
  pub standing_first : (k : ℕ) (m : Layout) → Focus image l k m → Standing image l k
  standing_first k m f = go (gap m) refl
    where
      go : (g : ℕ) → gap m ≡ g → Standing image l k
      go zero e = let z : k + gap m ≡ k = omega arith in subst (Standing image l) z (standing_behind k m f)
      go (suc g) e = a_gap k m f (omega arith)

  -- from one place to the next
  standing_next : (h : ℕ) → Standing image l h → sound image h ≡ true → Standing image l (h + extent_at image h)
  standing_next _ (a_gap k m f wide) o = subst (Standing image l) (ap (λ (n : ℕ). k + n) (sym (gap-extent image k m f.part wide))) (standing_behind k m f)
  standing_next _ (a_block k g b m f) o =
      subst (Standing image l) (ap (λ (n : ℕ). k + g + n) (sym (block_extent image k g b m f.part)))
      (standing_first (k + g + extent b) m (focus_next image l k g b m f))
  standing_next _ the_end o = absurd (omega (arith, sound_in image (length image) o))

  -- every place of the walk is one of the layout
  pub standing : Placed image l → (h : ℕ) → OnWalk image h → Standing image l h
  standing p _ first = standing_first 16 l (focus_whole image l p)
  standing p _ (next h w o) = standing_next h (standing p h w) o

  -- every header on the walk is sound
  pub standing_sound : (h : ℕ) → Standing image l h → (h ≡ length image → ⊥) → sound image h ≡ true
  standing_sound _ (a_gap k m f wide) n = gap-sound image k m f.part wide
  standing_sound _ (a_block k g b m f) n = block_sound image k g b m f.part
  standing_sound _ the_end n = absurd (n refl)

  -- so that no walk ends at an unsound one
  pub no_unsound : Placed image l → (h : ℕ) → MeetsUnsound image h → ⊥
  no_unsound p h u = true_false (standing_sound h (standing p h u.on_walk) u.before_end) u.is_unsound
