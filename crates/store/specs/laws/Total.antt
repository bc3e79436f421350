-- The free total: row 22 where bytes are given back, and the call. Assumes nothing.
use Rattle.std.specs.Prelude.{ℕ, ◌+◌, ◌-◌, ◌≤◌, ◌≡◌, true, List, length, Ok}
use Rattle.std.proofs.Common.{leb-true, le-leb}
use Rattle.block.specs.Layout.{stored_total}
use Rattle.store.specs.State.{State}
use Rattle.store.specs.Calls.{opening, total_fits, free_total}

-- row 22, of n bytes given back
module _ (image : List ℕ) (n : ℕ) where
  -- it is passed
  pub total_fits_lem : stored_total image + n ≤ length image - 16 → total_fits image n ≡ true
  unfolding total_fits
  total_fits_lem l = le-leb _ _ l

  -- and only there
  pub total-within : total_fits image n ≡ true → stored_total image + n ≤ length image - 16
  unfolding total_fits
  total-within e = leb-true _ _ e

-- the call
module _ (x : State) where
  -- otherwise the stored number
  pub free_total-given : (s : ℕ) → opening x ≡ Ok s → Ok (stored_total x.image) ≡ free_total x
  unfolding free_total
  free_total-given s e = rw e
