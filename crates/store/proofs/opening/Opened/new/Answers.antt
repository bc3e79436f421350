-- `store::Opened::new` meets its contract: 4 (`open`), then 5 by the used entries of the exponent that was read. Assumes nothing.
use Rattle.std.proofs.Common.{arith}
use Rattle.std.proofs.lemmas.Grind.{common_steps}
use Rattle.block.specs.laws.Superblock.{superblock_parts, opened_is_good, opened_is_bad}
use Rattle.store.specs.laws.Opening.{opening-passes, not_open, table_short}
use Rattle.store.proofs.opening.Opened.new.Goals as goal

pub used_entries-requires : goal.used_entries-requires
used_entries-requires c = grind (arith, common_steps, superblock_parts, opened_is_good)

-- row 4
pub returns-in_default : goal.returns-in_default
returns-in_default c = grind (arith, common_steps, opened_is_bad, not_open)

-- row 5
pub returns-then-table-used_entries : goal.returns-then-table-used_entries
returns-then-table-used_entries c = grind (arith, common_steps, opened_is_good, table_short)

-- the exponent
pub invariant_of-result : goal.invariant_of-result
invariant_of-result c = grind (arith, common_steps, opened_is_good, opening-passes)
