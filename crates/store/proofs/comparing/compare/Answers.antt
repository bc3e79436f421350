-- `store::compare` meets its contract: refused by its tests, or the bytes are compared. Assumes nothing.
use Rattle.std.proofs.Common.{arith}
use Rattle.std.proofs.lemmas.Grind.{common_steps}
use Rattle.store.specs.Calls.{compare, compared, copy_checks}
use Rattle.store.specs.laws.Copy.{copy_parts}
use Rattle.store.proofs.Lent.{met}
use Rattle.store.proofs.comparing.compare.Goals as goal

pub compare_runs-requires : goal.compare_runs-requires
compare_runs-requires c = grind (arith, common_steps, copy_parts _ _ _ _ _ (met (copy_checks _ _ _) c.in_ok-new.ensures c.in_ok-b.ensures))

-- row 4 or 5
pub returns-in_err-new : goal.returns-in_err-new
unfolding compare compared copy_checks
returns-in_err-new c = grind (arith, common_steps)

-- a row behind them
pub returns-in_err-b : goal.returns-in_err-b
unfolding compare compared copy_checks
returns-in_err-b c = grind (arith, common_steps)

-- the bytes are compared
pub returns : goal.returns
unfolding compare compared copy_checks
returns c = grind (arith, common_steps)
