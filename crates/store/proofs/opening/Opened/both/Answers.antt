-- `store::Opened::both` meets its contract: 6, then `access` of each. Assumes nothing.
use Rattle.std.proofs.Common.{arith}
use Rattle.std.proofs.lemmas.Grind.{common_steps}
use Rattle.store.specs.Calls.{copy_checks}
use Rattle.store.proofs.opening.Opened.both.Goals as goal

pub returns-then-length-eq0 : goal.returns-then-length-eq0
unfolding copy_checks
returns-then-length-eq0 c = grind (arith, common_steps)

pub returns : goal.returns
unfolding copy_checks
returns c = grind (arith, common_steps)

pub returns-in_err-access : goal.returns-in_err-access
unfolding copy_checks
returns-in_err-access c = grind (arith, common_steps)
