-- `store::has_at` meets its contract: no before the base; else as the type has it there (`type_has`). Assumes nothing.
use Rattle.std.proofs.lemmas.Grind.{common_steps}
use Rattle.std.proofs.Common.{arith}
use Rattle.store.specs.laws.Casts.{has_before, has_behind}
use Rattle.store.proofs.casting.has_at.Goals as goal

-- before the base
pub returns-then-distance-lt0 : goal.returns-then-distance-lt0
returns-then-distance-lt0 c = grind (arith, common_steps, has_before)

-- yes
pub returns-then-type_has : goal.returns-then-type_has
returns-then-type_has c = grind (arith, common_steps, has_behind)

-- no
pub returns-else-type_has : goal.returns-else-type_has
returns-else-type_has c = grind (arith, common_steps, has_behind)
