-- `store::free_total` meets its contract: refused by `opening`, or the number is read. Assumes nothing.
use Rattle.std.proofs.Common.{arith}
use Rattle.std.proofs.lemmas.Grind.{common_steps}
use Rattle.store.specs.Calls.{free_total}
use Rattle.store.proofs.Lent.{opens}
use Rattle.store.proofs.total.free_total.Goals as goal

pub returns : goal.returns
unfolding free_total
returns c = grind (arith, common_steps)

pub returns-in_err-store : goal.returns-in_err-store
unfolding free_total
returns-in_err-store c = grind (arith, common_steps)

pub stored_total-requires : goal.stored_total-requires
stored_total-requires c = omega (arith, (opens c.in_ok-store.store).long)
