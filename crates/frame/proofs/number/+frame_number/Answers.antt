-- The number of 64-bit addresses is at most 64, so that the sum fits. Assumes nothing.
use Rattle.std.proofs.Common.{suc, ◌/◌, sym, ap, ◌∙◌, add-one, arith}
use Rattle.frame.specs.laws.Frames.{number_eq, number_ne, number_least}
use Rattle.frame.proofs.number.+frame_number.Goals as goal

pub overflow_add-result : goal.overflow_add-result
overflow_add-result t c = let l = number_least 64 (c.args.a / 2) (c.args.b / 2) (omega arith) in omega arith

-- equal addresses
pub returns-then-a-b : goal.returns-then-a-b
returns-then-a-b t c = sym (number_eq _ _ c.if-a-b.true)

-- one more than the number of their halves
pub returns-else-a-b : goal.returns-else-a-b
returns-else-a-b t c = add-one _ ∙ ap suc c.frame_number.ensures ∙ sym (number_ne _ _ c.if-a-b.false)
