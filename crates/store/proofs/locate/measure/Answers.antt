-- `store::locate::measure` meets its contract: no number has more than 63 bits, so the machine's differences are those of the integers. Assumes nothing.
use Rattle.std.proofs.lemmas.Grind.{common_steps}
use Rattle.std.proofs.Common.{arith}
use Rattle.store.specs.laws.Distances.{start_is, end_is}
use Rattle.store.proofs.locate.measure.Goals as goal

pub returns : goal.returns
returns c = grind (arith, common_steps, start_is, end_is)
