-- `store::copy_text` meets its contract: refused by its tests, or the text is copied. Assumes nothing.
use Rattle.std.proofs.Common.{arith}
use Rattle.std.proofs.lemmas.Grind.{common_steps}
use Rattle.store.specs.Calls.{copy_text, copy_text_checks}
use Rattle.store.specs.laws.CopyText.{copy_text_parts}
use Rattle.store.proofs.Lent.{met}
use Rattle.store.proofs.text.copy_text.Goals as goal

pub copy_within-requires : goal.copy_within-requires
copy_within-requires c = grind (arith, common_steps, copy_text_parts _ _ _ _ (met (copy_text_checks _ _) c.in_ok-new.ensures c.in_ok-n.ensures))

-- row 4 or 5
pub returns-in_err-new : goal.returns-in_err-new
unfolding copy_text copy_text_checks
returns-in_err-new c = grind (arith, common_steps)

-- a row behind them
pub returns-in_err-n : goal.returns-in_err-n
unfolding copy_text copy_text_checks
returns-in_err-n c = grind (arith, common_steps)

-- the text is copied
pub returns : goal.returns
unfolding copy_text copy_text_checks
returns c = grind (arith, common_steps)
