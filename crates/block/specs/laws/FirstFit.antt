-- First fit: what it finds. Assumes nothing.
use Rattle.std.specs.Prelude.{◌≡◌, ℕ, ◌<◌, ◌≤◌, true, false, List, length, nat_le, refl}
use Rattle.std.proofs.Common.{ap, arith, le-leb, leb-true}
use Rattle.block.specs.laws.Booleans.{true_false, and_both, and_left, and_right}
use Rattle.block.specs.Layout.{header_at, extent_at, is_free, sound}
use Rattle.block.specs.Walk.{Walked, stopped, unsound, ended, walk, fitting, fit_of, first_fit, OnWalk, LowestFit}
use Rattle.block.specs.laws.Walks.{place_stopped, MeetsUnsound, place, walk_passed, walk_stop, walk_meets_unsound}
use Rattle.block.specs.declared.walk.Fit.TheVariants as fit

fit_at : (w : Walked Unit) (h : ℕ) → fit_of w ≡ fit.At h → w ≡ stopped tt h
unfolding fit_of
fit_at (stopped tt g) h e = let z : g ≡ h = cc in ap (stopped tt) z
fit_at (unsound g) h e = cc
fit_at (ended a) h e = cc

fit_unsound : (w : Walked Unit) (h : ℕ) → fit_of w ≡ fit.Unsound h → w ≡ unsound h
unfolding fit_of
fit_unsound (stopped a g) h e = cc
fit_unsound (unsound g) h e = let z : g ≡ h = cc in ap unsound z
fit_unsound (ended a) h e = cc

fit_end : (image : List ℕ) (w : Walked Unit) → fit_of w ≡ fit.End → place image w ≡ length image
unfolding fit_of place
fit_end image (stopped a g) e = cc
fit_end image (unsound g) e = cc
fit_end image (ended a) e = refl

-- a block that first fit passed does not fit
not-fitting : (image : List ℕ) (need k : ℕ) → (fitting need).stops k (header_at image k) ≡ false → is_free image k ≡ true → need ≤ extent_at image k → ⊥
not-fitting image need k n f l = true_false (and_both (is_free image k) (nat_le need (extent_at image k)) f (le-leb _ _ l)) n

-- the block that first fit finds is the lowest that fits
pub first_fit_lowest : (image : List ℕ) (need h : ℕ) → first_fit image need ≡ fit.At h → LowestFit image need h
unfolding first_fit
first_fit_lowest image need h e =
    let w : walk (fitting need) image tt ≡ stopped tt h = fit_at (walk (fitting need) image tt) h e in
    let r = walk_stop (fitting need) image tt tt h w in
    let p : place image (walk (fitting need) image tt) ≡ h = place_stopped image (walk (fitting need) image tt) tt h w in
    record {
      on_walk = r.0;
      is_sound = r.1;
      is_free_lem = and_left _ _ r.2;
      fits_in = leb-true _ _ (and_right (is_free image h) _ r.2);
      lowest = λ k o l f x. not-fitting image need k (walk_passed (fitting need) image tt k o (omega arith)).1 f x;
    }

-- the unsound header that first fit finds is on the walk
pub first_fit_unsound : (image : List ℕ) (need h : ℕ) → first_fit image need ≡ fit.Unsound h → MeetsUnsound image h
unfolding first_fit
first_fit_unsound image need h e = walk_meets_unsound (fitting need) image tt h (fit_unsound (walk (fitting need) image tt) h e)

-- where nothing fits, every block on the walk is sound, and none is free and long enough
pub first_fit-end : (image : List ℕ) (need : ℕ) → first_fit image need ≡ fit.End → (k : ℕ) → OnWalk image k → k < length image → (sound image k ≡ true) × (is_free image k ≡ true → need ≤ extent_at image k → ⊥)
unfolding first_fit
first_fit-end image need e k o l =
    let p : place image (walk (fitting need) image tt) ≡ length image = fit_end image (walk (fitting need) image tt) e in
    let r = walk_passed (fitting need) image tt k o (omega arith) in
    (r.0, not-fitting image need k r.1)
