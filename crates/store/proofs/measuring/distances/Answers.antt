-- `store::distances` meets its contract: 4 and 5, then 10 and 11 (`locate`). Assumes nothing.
use Rattle.std.proofs.Common.{arith}
use Rattle.std.proofs.lemmas.Grind.{common_steps}
use Rattle.store.specs.Calls.{distances, distances_checks, distances_at, read_tag, found_at}
use Rattle.store.proofs.measuring.distances.Goals as goal

pub returns-in_err-store : goal.returns-in_err-store
unfolding distances distances_checks distances_at
returns-in_err-store c = grind (arith, common_steps)

pub returns-in_err-object : goal.returns-in_err-object
unfolding distances distances_checks distances_at read_tag found_at
returns-in_err-object c = grind (arith, common_steps)

pub returns : goal.returns
unfolding distances distances_checks distances_at read_tag found_at
returns c = grind (arith, common_steps)
