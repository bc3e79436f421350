-- `store::allocation::taken_extent` meets its contract: all of the free block, or a rest of 16 bytes or more stays free. Assumes nothing.
use Rattle.std.proofs.lemmas.Grind.{common_steps}
use Rattle.std.proofs.Common.{arith}
use Rattle.block.specs.laws.Soundness.{sound_in}
use Rattle.store.specs.laws.Allocate.{taken_whole, taken_rest}
use Rattle.store.proofs.allocation.taken_extent.Goals as goal

-- all of it
pub returns-then-extent-need-lt16 : goal.returns-then-extent-need-lt16
returns-then-extent-need-lt16 c = grind (arith, common_steps, taken_whole)

-- a rest stays
pub returns-else-extent-need-lt16 : goal.returns-else-extent-need-lt16
returns-else-extent-need-lt16 c = grind (arith, common_steps, taken_rest)

pub extent_at-extent-requires : goal.extent_at-extent-requires
extent_at-extent-requires c = sound_in _ _ c.requires.0
