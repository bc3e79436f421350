-- `traffic::recording::recorded`. Assumes nothing.
use Rattle.traffic.proofs.Loads.{inside_log}
use Rattle.traffic.proofs.recording.recorded.Goals as goal

-- the bytes written are inside the log
pub invariant_of-result : goal.invariant_of-result
invariant_of-result c = record { written_inside = inside_log c.args.generator c.args.draws c.args.log.now c.traffic-answer.ensures }
