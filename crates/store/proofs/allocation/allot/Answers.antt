-- `store::allocation::allot` meets its contract: the total is read and the extent taken from it before the block is carved. Assumes nothing.
use Rattle.std.proofs.Common.{arith}
use Rattle.block.specs.laws.Soundness.{sound_in}
use Rattle.store.proofs.allocation.allot.Goals as goal

pub stored_total-requires : goal.stored_total-requires
stored_total-requires c = omega (arith, sound_in _ _ c.requires.0)

pub write_total-requires : goal.write_total-requires
write_total-requires c = omega (arith, sound_in _ _ c.requires.0)
