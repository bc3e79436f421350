-- `frame::frame_number`: it calls itself. Measure: the larger address. Assumes nothing.
use Rattle.std.proofs.Common.{max}
use Rattle.frame.proofs.number.+frame_number.Given as goal

abbrev pub decreases-frame_number : goal.decreases-frame_number
decreases-frame_number l = max l.a l.b
