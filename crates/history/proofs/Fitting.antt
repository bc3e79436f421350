-- A new block in a gap that has room for it, and what first fit finds.
-- In order: the layout with the new block; its bytes; the carved image; first fit. Assumes nothing.
use Rattle.std.proofs.Common.{None, Some, ℕ, ◌+◌, ◌-◌, ◌^◌, ◌≤◌, ◌<◌, ◌≡◌, refl, cond, List, ◌++◌, length, take, ltb, eqb, sym, ap, ◌∙◌, append_assoc, ⊎_elim, inl, inr, arith, add-zero, length-append, take-append-drop, length-take-le, ltb-true, ltb-false}
use Rattle.std.proofs.lemmas.Grind.{common_steps}
use Rattle.std.proofs.Math.ListN.{length-replicate, replicate-append-replicate}
use Rattle.block.specs.laws.Booleans.{by_bool, true_false}
use Rattle.block.specs.Bytes.{put}
use Rattle.block.specs.laws.Writes.{put-at}
use Rattle.block.specs.Layout.{free_header, live_header, extent_at}
use Rattle.block.specs.laws.Headers.{length-header}
use Rattle.block.specs.laws.Soundness.{sound_in}
use Rattle.block.specs.Walk.{first_fit, LowestFit}
use Rattle.block.specs.laws.FirstFit.{first_fit_lowest, first_fit_unsound, first_fit-end}
use Rattle.block.specs.declared.walk.Fit.{Fit}
use Rattle.block.specs.declared.walk.Fit.TheVariants as fit
use Rattle.store.specs.Calls.{taken_extent, carved}
use Rattle.store.specs.laws.Allocate.{taken_whole, taken_rest, carved-whole, carved_rest}
use Rattle.history.proofs.Gaps.{Block, extent, Layout, last, item, zeros, gap_bytes, block_bytes, render, gaps, GapOk, BlockOk, lookup, block_at, Placed, Remade, Clear}
use Rattle.history.proofs.Looks.{gap, regap, gap_ok, gap_le, regap_ok, regap-size, look_first, look_inside, look_before}
use Rattle.history.proofs.Rendered.{after, gap_none, gap_some, gap-free, gap-extent, block_not_free, render-regap, gap_cut, Part}
use Rattle.history.proofs.Focus.{Focus, focus_whole, focus_next, focus_remade, Standing, a_gap, a_block, the_end, standing, no_unsound}

-- what is left of a gap of g bytes that a body of n goes into, and the spare bytes of the new block

unfoldable pub left : ℕ → ℕ → ℕ
left n g = cond (ltb (g - (16 + n)) 16) 0 (g - (16 + n))

unfoldable pub over : ℕ → ℕ → ℕ
over n g = cond (ltb (g - (16 + n)) 16) (g - (16 + n)) 0

-- nothing of the gap is lost, the spare bytes are few, and the rest is a gap

over-left : (n g : ℕ) → 16 + n ≤ g → 16 + n + over n g + left n g ≡ g
unfolding over left
over-left n g le = grind arith

over_tight : (n g : ℕ) → over n g ≤ 15
unfolding over
over_tight n g = grind arith

left_ok : (n g : ℕ) → GapOk (left n g)
unfolding left
left_ok n g = by_bool (ltb (g - (16 + n)) 16) (λ p. rw p tt) (λ p. rw p (gap_ok (g - (16 + n)) (ltb-false (g - (16 + n)) 16 p)))

-- the new block in a gap of g bytes
abbrev pub new : ℕ → ℕ → ℕ → ℕ → Block
new n type cue g = record { type = type; cue = cue; body = zeros n; spare = over n g }

-- the layout with it in the first gap
abbrev pub placed_in : ℕ → ℕ → ℕ → Layout → Layout
placed_in n type cue l = item 0 (new n type cue (gap l)) (regap (left n (gap l)) l)

new-extent : (n type cue g : ℕ) → extent (new n type cue g) ≡ 16 + (n + over n g)
new-extent n type cue g = simp length-replicate

new_ok : (n type cue g : ℕ) → type < 2 ^ 16 → cue < 2 ^ 32 → BlockOk (new n type cue g)
new_ok n type cue g b c = record { type_fits = b; cue_fits = c; tight = over_tight n g }

new_bytes : (n type cue g : ℕ) → block_bytes (new n type cue g) ≡ live_header (16 + (n + over n g)) type n cue ++ (zeros n ++ zeros (over n g))
unfolding block_bytes
new_bytes n type cue g = simp length-replicate

render-placed : (n type cue : ℕ) (l : Layout)
    → render (placed_in n type cue l)
    ≡ live_header (16 + (n + over n (gap l))) type n cue ++ (zeros n ++ (zeros (over n (gap l)) ++ (gap_bytes (left n (gap l)) ++ after l)))
render-placed n type cue l = grind (arith, gap_none, new_bytes, render-regap, append_assoc)

-- bytes

-- a run of zeros in two
zeros_split : (a b c : ℕ) → a ≡ b + c → zeros a ≡ zeros b ++ zeros c
zeros_split a b c e = rw e (sym (replicate-append-replicate b c 0))

-- two runs, apart from each other
put_two : (p o₁ z o₂ q b₁ b₂ : List ℕ) (h k : ℕ) → length p ≡ h → length o₁ ≡ length b₁ → length b₁ + length z ≡ k → length o₂ ≡ length b₂
    → put (put (p ++ (o₁ ++ (z ++ (o₂ ++ q)))) h b₁) (h + k) b₂ ≡ p ++ (b₁ ++ (z ++ (b₂ ++ q)))
put_two p o₁ z o₂ q b₁ b₂ h k e₁ e₂ e₃ e₄ =
    let w : p ++ (b₁ ++ (z ++ (o₂ ++ q))) ≡ (p ++ (b₁ ++ z)) ++ (o₂ ++ q) = simp append_assoc in
    rw (put-at p o₁ (z ++ (o₂ ++ q)) b₁ h e₁ e₂, w, put-at (p ++ (b₁ ++ z)) o₂ q b₂ (h + k) (simp length-append (omega arith)) e₄)
    (simp append_assoc)

-- the rest of the gap becomes a free block
carve_part : (P A : List ℕ) (h g n type cue : ℕ) → length P ≡ h → 32 + n ≤ g
    → put (put (P ++ (free_header g ++ (zeros (g - 16) ++ A))) h (live_header (16 + n) type n cue)) (h + (16 + n)) (free_header (g - (16 + n)))
    ≡ P ++ (live_header (16 + (n + 0)) type n cue ++ (zeros n ++ (gap_bytes (g - (16 + n)) ++ A)))
carve_part P A h g n type cue e le =
    let z : zeros (g - 16) ≡ zeros n ++ (zeros 16 ++ zeros (g - (16 + n) - 16)) =
    zeros_split (g - 16) n (16 + (g - (16 + n) - 16)) (omega arith)
    ∙ ap (λ (l : List ℕ). zeros n ++ l) (zeros_split (16 + (g - (16 + n) - 16)) 16 (g - (16 + n) - 16) refl)
    in
    rw (
      z,
      append_assoc,
      append_assoc,
      put_two P (free_header g) (zeros n) (zeros 16) (zeros (g - (16 + n) - 16) ++ A) (live_header (16 + n) type n cue) (free_header (g - (16 + n))) h (16 + n) e
          (simp length-header) (simp (length-header, length-replicate)) (simp length-header),
      gap_some (g - (16 + n)) (omega arith),
      add-zero,
      append_assoc,
    )

-- the rest of the gap is too short for a header
carve_whole : (P A : List ℕ) (h g n type cue : ℕ) → length P ≡ h → 16 + n ≤ g
    → put (P ++ (free_header g ++ (zeros (g - 16) ++ A))) h (live_header g type n cue)
    ≡ P ++ (live_header (16 + (n + (g - (16 + n)))) type n cue ++ (zeros n ++ (zeros (g - (16 + n)) ++ A)))
carve_whole P A h g n type cue e le =
    let z : zeros (g - 16) ≡ zeros n ++ zeros (g - (16 + n)) = zeros_split (g - 16) n (g - (16 + n)) (omega arith) in
    let y : 16 + (n + (g - (16 + n))) ≡ g = omega arith in
    rw (put-at P (free_header g) (zeros (g - 16) ++ A) (live_header g type n cue) h e (simp length-header), y, z, append_assoc)

-- the carved image is the layout's with the new block
carve_bytes : (image : List ℕ) (h : ℕ) (l : Layout) → Part image h l → (n type cue : ℕ) → 16 + n ≤ gap l
    → carved image h n type cue ≡ take h image ++ render (placed_in n type cue l)
unfolding left over
carve_bytes image h l p n type cue le =
    let x : extent_at image h ≡ gap l = gap-extent image h l p (omega arith) in
    let c : image ≡ take h image ++ (free_header (gap l) ++ (zeros (gap l - 16) ++ after l)) =
    sym (take-append-drop h image) ∙ ap (λ (q : List ℕ). take h image ++ q) (gap_cut image h l p (omega arith))
    in
    let s : length (take h image) ≡ h = length-take-le h image (omega (arith, p.whole)) in
    by_bool (ltb (gap l - (16 + n)) 16)
    (λ t.
    carved-whole image h n type cue (gap l) (sym x) (ltb-true (gap l - (16 + n)) 16 t)
    ∙ rw (render-placed n type cue l, t, gap_none)
    (ap (λ (q : List ℕ). put q h (live_header (gap l) type n cue)) c ∙ carve_whole (take h image) (after l) h (gap l) n type cue s le))
    (λ t.
    carved_rest image h n type cue (gap l) (sym x) (ltb-false (gap l - (16 + n)) 16 t)
    ∙ rw (render-placed n type cue l, t)
    (ap (λ (q : List ℕ). put (put q h (live_header (16 + n) type n cue)) (h + (16 + n)) (free_header (gap l - (16 + n)))) c
    ∙ carve_part (take h image) (after l) h (gap l) n type cue s (omega (arith, ltb-false (gap l - (16 + n)) 16 t))))

-- the layout with the new block

module _ (image : List ℕ) (l : Layout) (k : ℕ) (m : Layout) (f : Focus image l k m) (n type cue : ℕ) (le : 16 + n ≤ gap m) where
  pub carve_remade : type < 2 ^ 16 → cue < 2 ^ 32 → Remade image (carved image k n type cue) (f.fill (placed_in n type cue m))
  carve_remade fits cue_fits =
      focus_remade image l k m f (placed_in n type cue m)
      (tt, new_ok n type cue (gap m) fits cue_fits, regap_ok (left n (gap m)) m (left_ok n (gap m)) f.part.good)
      (omega (arith, new-extent n type cue (gap m), regap-size (left n (gap m)) m, over-left n (gap m) le))
      (carved image k n type cue) (carve_bytes image k m f.part n type cue le)

  -- the extent that is taken is the new block's
  taken_is : taken_extent image k n ≡ 16 + (n + over n (gap m))
  unfolding over
  taken_is = grind (arith, gap-extent, taken_whole, taken_rest)

  -- it is taken from the gaps
  pub carve_taken : gaps (f.fill (placed_in n type cue m)) + taken_extent image k n ≡ gaps l
  carve_taken = grind (arith, over-left, taken_is)

  pub carve_looks : (j : ℕ) → lookup k (placed_in n type cue m) j ≡ cond (eqb j k) (Some (new n type cue (gap m))) (lookup k m j)
  unfolding lookup
  carve_looks j = grind (arith, common_steps, over-left)

  -- no block stood at that place
  pub carve_vacant : block_at l k ≡ None
  carve_vacant = f.looked k (omega arith) ∙ look_before k m k (omega arith)

  -- the gap is clear of every block
  pub carve_clear : Clear image l k (16 + n)
  carve_clear =
      record {
        low = f.part.low;
        high = omega (arith, f.part.whole, gap_le m);
        apart = λ j b e.
            by_bool (ltb j k)
            (λ t. inl (f.earlier j b (ltb-true j k t) e))
            (λ t. inr (omega (arith, look_inside k m j b (sym (f.looked j (ltb-false j k t)) ∙ e))));
      }

-- first fit

-- the place that first fit finds is a gap with room
pub record Fits (image : List ℕ) (l : Layout) (need k : ℕ) : Type 0 where
  pub rest : Layout
  pub focus : Focus image l k rest
  pub room : need ≤ gap rest

fits_at : (image : List ℕ) (l : Layout) (need h : ℕ) → Standing image l h → LowestFit image need h → Fits image l need h
fits_at image l need _ (a_gap k m f wide) r = record { rest = m; focus = f; room = omega (arith, r.fits_in, gap-extent image k m f.part wide) }
fits_at image l need _ (a_block k g b m f) r = absurd (true_false r.is_free_lem (block_not_free image k g b m f.part))
fits_at image l need _ the_end r = absurd (omega (arith, sound_in image (length image) r.is_sound))

-- where no gap has room, no run is clear
no_run : (image : List ℕ) (l : Layout) (need : ℕ) → ((k : ℕ) (m : Layout) → Focus image l k m → need ≤ gap m → ⊥)
    → (k : ℕ) (m : Layout) → Focus image l k m → (a : ℕ) → k ≤ a → Clear image l a need → ⊥
no_run image l need none-fits k (last g) f a le c = none-fits k (last g) f (omega (arith, f.part.whole, c.high))
no_run image l need none-fits k (item g b m) f a le c =
    ⊎_elim
    (λ (q : k + g + extent b ≤ a). no_run image l need none-fits (k + g + extent b) m (focus_next image l k g b m f) a q c)
    (λ (q : a + need ≤ k + g). none-fits k (item g b m) f (omega arith))
    (c.apart (k + g) b (f.looked (k + g) (omega arith) ∙ look_first k g b m))

-- a gap with room is one that first fit would have found
end_fits : (image : List ℕ) (l : Layout) (need : ℕ) → 1 ≤ need → first_fit image need ≡ fit.End → (k : ℕ) (m : Layout) → Focus image l k m → need ≤ gap m → ⊥
end_fits image l need pos e k m f le =
    let x : extent_at image k ≡ gap m = gap-extent image k m f.part (omega arith) in
    (first_fit-end image need e k f.on_walk (omega (arith, f.part.whole, gap_le m))).1 (gap-free image k m f.part (omega arith)) (omega arith)

-- on a layout, first fit ends at a gap with room, or there is no clear run
pub data FirstFit (image : List ℕ) (l : Layout) (need : ℕ) : Type 0 where
  at : (k : ℕ) → first_fit image need ≡ fit.At k → Fits image l need k → FirstFit image l need
  nowhere : first_fit image need ≡ fit.End → ((a : ℕ) → Clear image l a need → ⊥) → FirstFit image l need

pub first_fit_lem : (image : List ℕ) (l : Layout) → Placed image l → (need : ℕ) → 1 ≤ need → FirstFit image l need
first_fit_lem image l p need pos = go (first_fit image need) refl
  where
    go : (r : Fit) → first_fit image need ≡ r → FirstFit image l need
    go (fit.At h) e =
        let r : LowestFit image need h = first_fit_lowest image need h e in
        at h e (fits_at image l need h (standing image l p h r.on_walk) r)
    go (fit.Unsound h) e = absurd (no_unsound image l p h (first_fit_unsound image need h e))
    go fit.End e = nowhere e (λ a c. no_run image l need (end_fits image l need pos e) 16 l (focus_whole image l p) a c.low c)
