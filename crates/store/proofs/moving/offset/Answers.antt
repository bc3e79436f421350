-- `store::offset` meets its contract: 4 and 5, then 10 and 12 (`offset_in`). Assumes nothing.
use Rattle.std.proofs.Common.{arith, to_z-of_z}
use Rattle.std.proofs.lemmas.Grind.{common_steps}
use Rattle.store.specs.Calls.{move_answer}
use Rattle.store.proofs.Lent.{opens}
use Rattle.store.proofs.moving.offset.Goals as goal

pub offset_in-requires : goal.offset_in-requires
offset_in-requires c = grind (arith, common_steps, opens c.in_ok-store.store)

-- row 4 or 5
pub returns-in_err-store : goal.returns-in_err-store
unfolding move_answer
returns-in_err-store c = grind (arith, common_steps)

-- row 10 or 12, or the pointer
pub returns : goal.returns
unfolding move_answer
returns c = grind (arith, common_steps, to_z-of_z)
