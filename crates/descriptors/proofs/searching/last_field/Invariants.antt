-- `descriptors::searching::last_field`. Invariant: the last of the first k fields is that of all n. Assumes nothing.
use Rattle.std.proofs.Common.{◌≡◌}
use Rattle.descriptors.specs.Layouts.{last_starting}
use Rattle.descriptors.proofs.searching.last_field.Given as goal

abbrev pub invariant-loop-k : goal.invariant-loop-k
invariant-loop-k l = last_starting l.list l.p l.o l.k ≡ last_starting l.list l.p l.o l.n
