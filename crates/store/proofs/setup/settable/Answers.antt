-- `store::setup::settable` meets its contract: 1 by two comparisons, 2 by two, then 3. Assumes nothing.
use Rattle.std.proofs.lemmas.Grind.{common_steps}
use Rattle.std.proofs.Common.{arith}
use Rattle.store.specs.laws.SetUp.{set_up_exponent, set_up-length, set_up_few, set_up-passes}
use Rattle.store.proofs.setup.settable.Goals as goal

-- row 1: the exponent is too low
pub returns-then-s-lt6 : goal.returns-then-s-lt6
returns-then-s-lt6 c = grind (arith, common_steps, set_up_exponent)

-- row 1: it is too high
pub returns-then-s-gt15 : goal.returns-then-s-gt15
returns-then-s-gt15 c = grind (arith, common_steps, set_up_exponent)

-- row 2: the image is too short
pub returns-then-len-lt64 : goal.returns-then-len-lt64
returns-then-len-lt64 c = grind (arith, common_steps, set_up-length)

-- row 2: it is too long
pub returns-then-len-gt1073741824 : goal.returns-then-len-gt1073741824
returns-then-len-gt1073741824 c = grind (arith, common_steps, set_up-length)

-- row 3
pub returns-then-table-used_entries : goal.returns-then-table-used_entries
returns-then-table-used_entries c = grind (arith, common_steps, set_up_few)

-- the three are passed
pub returns : goal.returns
returns c = grind (arith, common_steps, set_up-passes)
