-- `store::Opened::cue_releasable`. Invariant: the objects of the cue up to h are gathered, row 21 of them is `held`, and their extents sum up to `given`
-- (`Gathers`). Measure: the bytes from h to the image's end. Assumes nothing.
use Rattle.std.specs.Prelude.{◌-◌, length}
use Rattle.store.specs.Opened.{seen}
use Rattle.store.proofs.Gathering.{Gathers}
use Rattle.store.proofs.opening.Opened.cue_releasable.Given as goal

abbrev pub invariant-loop-d : goal.invariant-loop-d
invariant-loop-d l = Gathers l.self.s l.cue (seen l.self) l.held l.count l.given l.h

abbrev pub decreases-loop-d : goal.decreases-loop-d
decreases-loop-d l = length l.self.image.now - l.h
