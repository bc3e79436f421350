-- `store::copy` meets its contract: refused by its tests, or the bytes are copied. Assumes nothing.
use Rattle.std.proofs.Common.{arith}
use Rattle.std.proofs.lemmas.Grind.{common_steps}
use Rattle.store.specs.Calls.{copy, copy_checks}
use Rattle.store.specs.laws.Copy.{copy_parts}
use Rattle.store.proofs.Lent.{met}
use Rattle.store.proofs.copying.copy.Goals as goal

pub copy_within-requires : goal.copy_within-requires
copy_within-requires c = grind (arith, common_steps, copy_parts _ _ _ _ _ (met (copy_checks _ _ _) c.in_ok-new.ensures c.in_ok-from.ensures))

-- row 4 or 5
pub returns-in_err-new : goal.returns-in_err-new
unfolding copy copy_checks
returns-in_err-new c = grind (arith, common_steps)

-- a row behind them
pub returns-in_err-from : goal.returns-in_err-from
unfolding copy copy_checks
returns-in_err-from c = grind (arith, common_steps)

-- the bytes are copied
pub returns : goal.returns
unfolding copy copy_checks
returns c = grind (arith, common_steps)
