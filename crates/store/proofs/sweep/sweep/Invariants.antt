-- `store::sweep::sweep`. Invariant: with the run that is kept back and the total written, image and table are what freeing singly the objects before h
-- leaves, and freeing those from h on leaves the goal (`Pass`). Measure: the bytes from h to the image's end. Assumes nothing.
use Rattle.std.specs.Prelude.{◌≡◌, ◌-◌, length}
use Rattle.store.specs.State.{state}
use Rattle.store.specs.Calls.{free_each, cue_pointers}
use Rattle.store.proofs.Runs.{Pass}
use Rattle.store.proofs.sweep.sweep.Given as goal

abbrev pub invariant-loop-h : goal.invariant-loop-h
invariant-loop-h l = (length l.image ≡ length l.initial.image) × (length l.table ≡ length l.initial.table)
    × Pass l.s l.cue (free_each (cue_pointers l.cue l.initial.image) (state l.initial.image l.initial.table)) l.image l.table l.total l.run l.from l.h

abbrev pub decreases-loop-h : goal.decreases-loop-h
decreases-loop-h l = length l.initial.image - l.h
