-- `store::offset_in` meets its contract: 10 (`reach`), then 12 (`moved`); or the moved pointer is packed. Assumes nothing.
use Rattle.std.proofs.Common.{arith}
use Rattle.std.proofs.lemmas.Grind.{common_steps}
use Rattle.frame.specs.laws.Pointers.{unpack_range, reach-within, reach_bad, moved_range}
use Rattle.store.specs.laws.Move.{moved_out, moved_in}
use Rattle.store.proofs.moving.offset_in.Goals as goal

pub moved-requires : goal.moved-requires
moved-requires c = grind (arith, common_steps, unpack_range, reach-within)

pub pack-requires : goal.pack-requires
pack-requires c = grind (arith, common_steps, unpack_range, moved_range)

pub returns-in_err-n : goal.returns-in_err-n
returns-in_err-n c = grind (arith, common_steps, reach_bad)

pub returns-in_err-q : goal.returns-in_err-q
returns-in_err-q c = grind (arith, common_steps, reach-within, moved_out)

pub returns : goal.returns
returns c = grind (arith, common_steps, reach-within, moved_in)
