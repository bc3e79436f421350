-- `block::walk::count_blocks`. Invariant: the blocks up to h are counted (`Counting`). Measure: the bytes from h to the image's end. Assumes nothing.
use Rattle.std.proofs.Common.{◌-◌, length}
use Rattle.block.proofs.Counting.{Counting}
use Rattle.block.proofs.walk.count_blocks.Given as goal

abbrev pub invariant-loop-d : goal.invariant-loop-d
invariant-loop-d l = Counting l.image l.h l.objects l.live l.free

abbrev pub decreases-loop-d : goal.decreases-loop-d
decreases-loop-d l = length l.image - l.h
