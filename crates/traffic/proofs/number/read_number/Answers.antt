-- `traffic::number::read_number`: each byte as it is read. Assumes nothing.
use Rattle.std.proofs.Common.{arith}
use Rattle.traffic.proofs.Numbers.{empty, begun, ended, other, large, digit}
use Rattle.traffic.proofs.number.read_number.Goals as goal

-- no byte
pub returns-then-is_empty : goal.returns-then-is_empty
returns-then-is_empty c = grind (arith, empty)

pub loop-b-init : goal.loop-b-init
loop-b-init c = grind (arith, begun)

-- a byte that is no digit
pub returns-then-not-is_ascii_digit : goal.returns-then-not-is_ascii_digit
returns-then-not-is_ascii_digit c = grind (arith, other c.loop-b.invariant)

-- the value would not fit
pub returns-in_err-checked_mul : goal.returns-in_err-checked_mul
returns-in_err-checked_mul c = grind (arith, large c.loop-b.invariant)

pub returns-in_err-value : goal.returns-in_err-value
returns-in_err-value c = grind (arith, large c.loop-b.invariant)

pub loop-b-preserved : goal.loop-b-preserved
loop-b-preserved c = grind (arith, digit c.loop-b.invariant)

-- all bytes are read
pub returns : goal.returns
returns c = ended c.loop-b.invariant c.loop-b-test.false
