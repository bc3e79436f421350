-- `descriptors::checking::good_list`. Invariant: the position is reached over whole descriptors, and what is left from it on says what the whole list says
-- (`Checking`). Measure: the bytes that are left. Assumes nothing.
use Rattle.std.proofs.Common.{◌-◌, length}
use Rattle.descriptors.specs.laws.Checks.{Checking}
use Rattle.descriptors.proofs.checking.good_list.Given as goal

abbrev pub invariant-loop-p : goal.invariant-loop-p
invariant-loop-p l = Checking l.list l.p

abbrev pub decreases-loop-p : goal.decreases-loop-p
decreases-loop-p l = length l.list - l.p
