-- `call_log::running::replay`. Invariant: the rest of the log, run from here, gives the rest of the whole run (`Running`). Assumes nothing.
use Rattle.store.specs.State.{state}
use Rattle.call_log.proofs.Turns.{Running}
use Rattle.call_log.proofs.running.replay.Given as goal

abbrev pub invariant-loop-record : goal.invariant-loop-record
invariant-loop-record l = record {
  can : (goal.iterator-loop-record).can_next l.record-iterator;
  finite : (goal.iterator-loop-record).is_finite l.record-iterator;
  runs : Running l.log (state l.initial.image l.initial.table) l.initial.out l.record-iterator l.out (state l.image l.table);
}
