-- `store::fill` meets its contract: refused by its tests, or the bytes are set. Assumes nothing.
use Rattle.std.proofs.Common.{arith}
use Rattle.std.proofs.lemmas.Grind.{common_steps}
use Rattle.store.specs.Calls.{fill, fill_checks}
use Rattle.store.specs.laws.Fill.{fill_parts}
use Rattle.store.proofs.Lent.{met}
use Rattle.store.proofs.access.fill.Goals as goal

pub fill-requires : goal.fill-requires
fill-requires c = (fill_parts _ _ _ _ (met (fill_checks _ _) c.in_ok-new.ensures c.in_ok-at.ensures)).bytes.inside

-- row 4 or 5
pub returns-in_err-new : goal.returns-in_err-new
unfolding fill fill_checks
returns-in_err-new c = grind (arith, common_steps)

-- a row behind them
pub returns-in_err-at : goal.returns-in_err-at
unfolding fill fill_checks
returns-in_err-at c = grind (arith, common_steps)

-- the bytes are set
pub returns : goal.returns
unfolding fill fill_checks
returns c = grind (arith, common_steps)
