-- `block::walk::walk_to`. Invariant: the walk from h on is what is left of the whole walk (`Walking`). Measure: the bytes from h to the image's end.
-- Assumes nothing.
use Rattle.std.proofs.Common.{◌-◌, length}
use Rattle.block.specs.Walk.{reaching}
use Rattle.block.specs.laws.Turns.{Walking}
use Rattle.block.proofs.walk.walk_to.Given as goal

abbrev pub invariant-loop-d : goal.invariant-loop-d
invariant-loop-d l = Walking (reaching l.target) l.image 0 l.before l.h

abbrev pub decreases-loop-d : goal.decreases-loop-d
decreases-loop-d l = length l.image - l.h
