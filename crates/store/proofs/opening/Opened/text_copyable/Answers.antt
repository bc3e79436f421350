-- `store::Opened::text_copyable` meets its contract: the source is read (`text_at`), then `access` of the target, for the length of the text plus one bytes. Assumes nothing.
use Rattle.std.proofs.Common.{arith}
use Rattle.std.proofs.lemmas.Grind.{common_steps}
use Rattle.store.specs.Calls.{copy_text_checks}
use Rattle.store.specs.laws.CopyText.{text_inside}
use Rattle.store.proofs.opening.Opened.text_copyable.Goals as goal

pub overflow_add-n : goal.overflow_add-n
overflow_add-n c = grind (arith, common_steps, text_inside)

pub access-requires : goal.access-requires
access-requires c = grind (arith, common_steps, text_inside)

pub returns-in_err-n : goal.returns-in_err-n
unfolding copy_text_checks
returns-in_err-n c = grind (arith, common_steps)

pub returns-in_err-access : goal.returns-in_err-access
unfolding copy_text_checks
returns-in_err-access c = grind (arith, common_steps)

pub returns : goal.returns
unfolding copy_text_checks
returns c = grind (arith, common_steps)
