-- `store::sweep::merge_end_at` meets its contract: at the image's end, or by the block at `next`. Assumes nothing.
use Rattle.std.proofs.lemmas.Grind.{common_steps}
use Rattle.std.proofs.Common.{sym, arith}
use Rattle.block.specs.laws.Soundness.{sound_in, sound-end}
use Rattle.store.specs.laws.Free.{merge_end_last, merge_end-free, merge_end_live}
use Rattle.store.proofs.sweep.merge_end_at.Goals as goal

-- at the image's end
pub returns-then-next-image : goal.returns-then-next-image
returns-then-next-image c = sym (merge_end_last _ _ (omega arith))

pub kind_at-requires : goal.kind_at-requires
kind_at-requires c = grind (arith, common_steps, sound_in)

pub extent_at-requires : goal.extent_at-requires
extent_at-requires c = grind (arith, common_steps, sound_in)

pub overflow_add-result : goal.overflow_add-result
overflow_add-result c = grind (arith, common_steps, sound-end)

-- a free block stands there
pub returns-then-kind_at-eq-FREE : goal.returns-then-kind_at-eq-FREE
returns-then-kind_at-eq-FREE c = grind (arith, common_steps, merge_end-free)

-- a live one
pub returns-else-kind_at-eq-FREE : goal.returns-else-kind_at-eq-FREE
returns-else-kind_at-eq-FREE c = grind (arith, common_steps, merge_end_live)
