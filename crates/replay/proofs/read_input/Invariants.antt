-- `read_input` ends, since each turn leaves less to fill.
use Rattle.std.specs.Prelude.{length, ◌-◌, ◌≤◌}
use Rattle.replay.proofs.read_input.Given as goal

abbrev pub invariant-loop-done : goal.invariant-loop-done
invariant-loop-done g l = l.done ≤ length l.buf

abbrev pub decreases-loop-done : goal.decreases-loop-done
decreases-loop-done g l = length l.buf - l.done
