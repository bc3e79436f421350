-- `store::tally` meets its contract: 4 and 5, then the count, or 7. Assumes nothing.
use Rattle.std.proofs.Common.{arith}
use Rattle.std.proofs.lemmas.Grind.{common_steps}
use Rattle.store.specs.Calls.{tally, tally_opened, tally_counted}
use Rattle.store.proofs.counting.tally.Goals as goal

pub returns-in_err-store : goal.returns-in_err-store
unfolding tally tally_opened tally_counted
returns-in_err-store c = grind (arith, common_steps)

pub returns : goal.returns
unfolding tally tally_opened tally_counted
returns c = grind (arith, common_steps)
