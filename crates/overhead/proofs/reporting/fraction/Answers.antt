use Rattle.std.proofs.Common.{sym, arith}
use Rattle.overhead.specs.laws.Rows.{fraction_none, fraction_some}
use Rattle.overhead.proofs.reporting.fraction.Goals as goal

-- no raw bytes: 0 over 1
pub returns-then-raw-eq0 : goal.returns-then-raw-eq0
returns-then-raw-eq0 c = sym (fraction_none _ _ c.if-raw-eq0.true)

-- the extra bytes over the raw ones
pub returns-else-raw-eq0 : goal.returns-else-raw-eq0
returns-else-raw-eq0 c = sym (fraction_some _ _ (omega arith))
