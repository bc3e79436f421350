-- `store::Opened::base_of` meets its contract: 10 and 11 (`locate`), then 15. Assumes nothing.
use Rattle.std.proofs.Common.{arith}
use Rattle.std.proofs.lemmas.Grind.{common_steps}
use Rattle.store.specs.Calls.{free_checks, read_tag, found_at}
use Rattle.store.proofs.opening.Opened.base_of.Goals as goal

pub returns-in_err-object : goal.returns-in_err-object
unfolding free_checks read_tag found_at
returns-in_err-object c = grind (arith, common_steps)

pub returns-then-unpack-object : goal.returns-then-unpack-object
unfolding free_checks read_tag found_at
returns-then-unpack-object c = grind (arith, common_steps)

pub returns : goal.returns
unfolding free_checks read_tag found_at
returns c = grind (arith, common_steps)
