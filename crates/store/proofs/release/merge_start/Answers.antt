-- `store::release::merge_start`: no block before, a free one, or another. Assumes nothing.
use Rattle.std.proofs.lemmas.Grind.{common_steps}
use Rattle.std.proofs.Common.{arith}
use Rattle.store.proofs.Merging.{starts_first, starts_before, starts_here}
use Rattle.store.proofs.release.merge_start.Goals as goal

-- h is the first block
pub returns-then-before-eq0 : goal.returns-then-before-eq0
returns-then-before-eq0 c = grind (arith, common_steps, starts_first)

-- the block before is free
pub returns-then-kind_at-eq-FREE : goal.returns-then-kind_at-eq-FREE
returns-then-kind_at-eq-FREE c = grind (arith, common_steps, starts_before)

-- it is live
pub returns-else-kind_at-eq-FREE : goal.returns-else-kind_at-eq-FREE
returns-else-kind_at-eq-FREE c = grind (arith, common_steps, starts_here)
