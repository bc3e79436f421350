-- `store::load` meets its contract: 4 and 5, 14, then `access`; or the number is read. Assumes nothing.
use Rattle.std.proofs.Common.{arith, sym}
use Rattle.std.proofs.lemmas.Grind.{common_steps}
use Rattle.store.specs.Calls.{load_answer}
use Rattle.store.specs.laws.Access.{accessed_parts}
use Rattle.store.proofs.access.load.Goals as goal

pub read_field-requires : goal.read_field-requires
read_field-requires c = grind (arith, common_steps, accessed_parts _ _ _ _ _ (sym c.in_ok-at.ensures))

pub returns-in_err-store : goal.returns-in_err-store
unfolding load_answer
returns-in_err-store c = grind (arith, common_steps)

pub returns-then-not-good_width : goal.returns-then-not-good_width
unfolding load_answer
returns-then-not-good_width c = grind (arith, common_steps)

pub returns-in_err-at : goal.returns-in_err-at
unfolding load_answer
returns-in_err-at c = grind (arith, common_steps)

pub returns-in_ok-at : goal.returns-in_ok-at
unfolding load_answer
returns-in_ok-at c = grind (arith, common_steps)

pub read_field-requires-else-unpack : goal.read_field-requires-else-unpack
read_field-requires-else-unpack c = grind (arith, common_steps, accessed_parts _ _ _ _ _ (sym c.in_ok-at-2.ensures))

pub returns-in_err-at-2 : goal.returns-in_err-at-2
unfolding load_answer
returns-in_err-at-2 c = grind (arith, common_steps)

pub returns-in_ok-at-2 : goal.returns-in_ok-at-2
unfolding load_answer
returns-in_ok-at-2 c = grind (arith, common_steps)
