-- `store::fits`: in 8 bytes every value; in less, where nothing is left of it behind them. Assumes nothing.
use Rattle.block.specs.laws.Fields.{fits_shifted}
use Rattle.store.proofs.access.fits.Goals as goal

-- 1 to 7
pub returns : goal.returns
returns c = fits_shifted c.args.width c.args.value
