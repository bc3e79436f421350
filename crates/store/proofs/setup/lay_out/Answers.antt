-- `store::setup::lay_out` meets its contract: the image is filled with zeros, then the superblock and one free header are put. Assumes nothing.
use Rattle.std.proofs.lemmas.Grind.{common_steps}
use Rattle.std.proofs.Common.{arith}
use Rattle.store.proofs.Fresh.{laid_out}
use Rattle.store.proofs.setup.lay_out.Goals as goal

-- a fresh image
pub returns : goal.returns
returns c = grind (arith, common_steps, laid_out)
