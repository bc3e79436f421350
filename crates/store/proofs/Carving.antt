-- What an object's tag and table entry ask for. Assumes nothing.
use Rattle.std.specs.Prelude.{◌≡◌, Bool, true, false, Ok, Err, ℕ, ◌+◌, ◌^◌, ◌≤◌, ◌<◌, length}
use Rattle.std.proofs.Common.{sym, ap, ◌∙◌, arith}
use Rattle.frame.specs.Tags.{wrapper, entry_of}
use Rattle.block.specs.laws.Soundness.{sound_low, sound-end}
use Rattle.block.specs.Walk.{first_fit}
use Rattle.block.specs.laws.FirstFit.{first_fit_lowest}
use Rattle.block.specs.declared.walk.Fit.TheVariants as fit
use Rattle.block.specs.Layout.{stored_total}
use Rattle.frame.specs.declared.tag.Tagged.{Tagged}
use Rattle.frame.specs.laws.Tags.{tagged}
use Rattle.store.specs.State.{State}
use Rattle.store.specs.Calls.{opening, entry_holds, taken_extent, allocate_checks}
use Rattle.store.specs.laws.Opening.{Open, entry_in}
use Rattle.store.specs.laws.Entries.{holds_for, tagged-holds}
use Rattle.store.specs.laws.Allocate.{site_with, site_of, site_refused, site_at, allocate_taken, allocate_wrong, allocate-given}
use Rattle.store.specs.declared.answer.Refusal.TheVariants.{EntryTaken, WrongTotal}

-- what an object's tag and entry ask for, where it lies in an open image
pub entry_needs : (x : State) (s h size : ℕ) → Open x s → 16 ≤ h → h + 16 + size ≤ length x.image
    → (s < 16) × (16 ≤ h) × (h + 16 + size ≤ 2 ^ 30) × (s < wrapper h size → entry_of s h size < length x.table)
entry_needs x s h size o l i = (omega (arith, o.high), l, omega (arith, o.short), λ k. entry_in x s h size o i)

-- the same, for the block that first fit finds
pub fit_needs : (x : State) (s h size : ℕ) → Open x s → first_fit x.image (16 + size) ≡ fit.At h
    → (s < 16) × (16 ≤ h) × (h + 16 + size ≤ 2 ^ 30) × (s < wrapper h size → entry_of s h size < length x.table)
fit_needs x s h size o f =
    let w = first_fit_lowest x.image (16 + size) h f in
    entry_needs x s h size o (sound_low x.image h w.is_sound) (omega (arith, w.fits_in, sound-end x.image h w.is_sound))

-- What the rows behind first fit come to, by the tag of the object at h.

module _ (s size h : ℕ) (x : State) (t : Tagged) (opens : opening x ≡ Ok s) (found : first_fit x.image (16 + size) ≡ fit.At h) (tag : t ≡ tagged s h size) where
  held : (b : Bool) → holds_for t 0 x.table ≡ b → entry_holds s h size 0 x.table ≡ b
  held b e = sym (tagged-holds s h size x.table 0) ∙ ap (λ (u : Tagged). holds_for u 0 x.table) (sym tag) ∙ e

  -- row 9
  pub site_taken : holds_for t 0 x.table ≡ false → Err EntryTaken ≡ site_of s size (allocate_checks size x)
  site_taken e = site_refused s size _ _ (allocate_taken size x s opens h found (held false e))

  module _ (free : holds_for t 0 x.table ≡ true) where
    -- row 22
    pub site_wrong : stored_total x.image < taken_extent x.image h size → Err WrongTotal ≡ site_of s size (allocate_checks size x)
    site_wrong l = site_refused s size _ _ (allocate_wrong size x s opens h found (held true free) l)

    -- the block at h
    pub site_found : taken_extent x.image h size ≤ stored_total x.image → site_with h t ≡ site_of s size (allocate_checks size x)
    site_found l = site_at s size h t _ tag (allocate-given size x s opens h found (held true free) l)
