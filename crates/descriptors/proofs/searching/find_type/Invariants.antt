-- `descriptors::searching::find_type`. Invariant: what is left of the search comes to what the whole search comes to (`Searching`). Measure: the bytes before
-- `end` that are left. Assumes nothing.
use Rattle.std.proofs.Common.{◌-◌}
use Rattle.descriptors.proofs.Turns.{Searching}
use Rattle.descriptors.proofs.searching.find_type.Given as goal

abbrev pub invariant-loop-p : goal.invariant-loop-p
invariant-loop-p l = Searching l.list l.end l.ty l.p

abbrev pub decreases-loop-p : goal.decreases-loop-p
decreases-loop-p l = l.end - l.p
