-- `store::total::total_fits` is one test. Assumes nothing.
use Rattle.store.specs.Calls.{total_fits}
use Rattle.store.proofs.total.total_fits.Goals as goal

pub returns : goal.returns
unfolding total_fits
returns c = cc
