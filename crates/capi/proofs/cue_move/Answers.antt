-- `capi::cue_move`: `store::offset`'s answer as a number and a pointer; it leaves all as it was. Assumes nothing.
use Rattle.std.proofs.Common.{to_z-of_z}
use Rattle.store.specs.Calls.{move}
use Rattle.capi.proofs.cue_move.Goals as goal

-- what `offset` answered
pub returns : goal.returns
unfolding move
returns c = cc (to_z-of_z c.ranges.distance)
