-- `store::store` meets its contract: refused by its tests, or the value is written. Assumes nothing.
use Rattle.std.proofs.Common.{arith}
use Rattle.std.proofs.lemmas.Grind.{common_steps}
use Rattle.store.specs.Calls.{store, store_checks}
use Rattle.store.specs.laws.Store.{store_parts}
use Rattle.store.proofs.Lent.{met}
use Rattle.store.proofs.access.store.Goals as goal

pub write_field-requires : goal.write_field-requires
write_field-requires c = grind (arith, common_steps, store_parts _ _ _ _ _ (met (store_checks _ _ _) c.in_ok-new.ensures c.in_ok-at.ensures))

-- row 4 or 5
pub returns-in_err-new : goal.returns-in_err-new
unfolding store store_checks
returns-in_err-new c = grind (arith, common_steps)

-- a row behind them
pub returns-in_err-at : goal.returns-in_err-at
unfolding store store_checks
returns-in_err-at c = grind (arith, common_steps)

-- the value is written
pub returns : goal.returns
unfolding store store_checks
returns c = grind (arith, common_steps)
