-- `dump::put_entries`. Invariant: to put the entries left is to put all. Assumes nothing.
use Rattle.dump.proofs.Entries.{Putting}
use Rattle.dump.proofs.put_entries.Given as goal

abbrev pub invariant-loop-i : goal.invariant-loop-i
invariant-loop-i l = Putting l.table l.bytes l.i
