-- `store::Opened::storable` meets its contract: 14, 16, then `access`. Assumes nothing.
use Rattle.std.proofs.Common.{arith}
use Rattle.std.proofs.lemmas.Grind.{common_steps}
use Rattle.store.specs.Calls.{store_checks}
use Rattle.store.proofs.opening.Opened.storable.Goals as goal

pub returns-then-not-good_width : goal.returns-then-not-good_width
unfolding store_checks
returns-then-not-good_width c = grind (arith, common_steps)

pub returns-then-not-fits : goal.returns-then-not-fits
unfolding store_checks
returns-then-not-fits c = grind (arith, common_steps)

pub returns : goal.returns
unfolding store_checks
returns c = grind (arith, common_steps)
