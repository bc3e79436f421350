-- `store::Opened::fillable` meets its contract: 6, then `access`. Assumes nothing.
use Rattle.std.proofs.Common.{arith}
use Rattle.std.proofs.lemmas.Grind.{common_steps}
use Rattle.store.specs.Calls.{fill_checks}
use Rattle.store.proofs.opening.Opened.fillable.Goals as goal

pub returns-then-length-eq0 : goal.returns-then-length-eq0
unfolding fill_checks
returns-then-length-eq0 c = grind (arith, common_steps)

pub returns : goal.returns
unfolding fill_checks
returns c = grind (arith, common_steps)
