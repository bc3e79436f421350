-- `store::allocation::carve` meets its contract: the live block takes all of the free one, or a rest of 16 bytes or more stays free. Assumes nothing.
use Rattle.std.proofs.lemmas.Grind.{common_steps}
use Rattle.std.proofs.Common.{arith}
use Rattle.block.specs.laws.Soundness.{sound_in, sound-end}
use Rattle.store.specs.laws.Allocate.{carved-whole, carved_rest}
use Rattle.store.proofs.allocation.carve.Goals as goal

pub overflow_add-h : goal.overflow_add-h
overflow_add-h c = grind (arith, common_steps, sound-end)

pub write_free-requires : goal.write_free-requires
write_free-requires c = grind (arith, common_steps, sound-end)

-- all of it
pub returns-then-rest-lt16 : goal.returns-then-rest-lt16
returns-then-rest-lt16 c = grind (arith, common_steps, carved-whole)

-- and a rest
pub returns-else-rest-lt16 : goal.returns-else-rest-lt16
returns-else-rest-lt16 c = grind (arith, common_steps, carved_rest)

pub extent_at-extent-requires : goal.extent_at-extent-requires
extent_at-extent-requires c = sound_in _ _ c.requires.0

pub write_live-requires : goal.write_live-requires
write_live-requires c = sound_in _ _ c.requires.0

pub write_live-requires-else-rest-lt16 : goal.write_live-requires-else-rest-lt16
write_live-requires-else-rest-lt16 c = sound_in _ _ c.requires.0
