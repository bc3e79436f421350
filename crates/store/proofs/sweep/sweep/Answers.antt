-- `store::sweep::sweep` meets its contract: with the run kept back and the total written, the pass is that of the single frees (`Pass`). Assumes nothing.
use Rattle.std.specs.Prelude.{refl}
use Rattle.std.proofs.Common.{sym, arith}
use Rattle.std.proofs.lemmas.Grind.{common_steps}
use Rattle.store.specs.State.{state}
use Rattle.store.specs.laws.Opening.{opening_parts}
use Rattle.store.specs.laws.Entries.{tagged_in, tagged-noted}
use Rattle.store.proofs.Gathering.{pass_begins}
use Rattle.store.proofs.Runs.{pass_ends, pass_sees, pass_passes, pass_needs, pass_next, pass_gains, pass_takes}
use Rattle.store.proofs.sweep.sweep.Goals as goal

pub loop-h-init : goal.loop-h-init
loop-h-init c = (refl, refl, rw c.stored_total-total.ensures.0 (pass_begins _ _ (state _ _) (λ k. (c.slice_known-1.given k).fits) c.requires.0 c.requires.1))

pub tag_object-requires : goal.tag_object-requires
tag_object-requires c = grind (arith, common_steps, pass_sees c.loop-h.invariant.2, pass_needs c.loop-h.invariant.2)

pub note-requires : goal.note-requires
note-requires c = grind (arith, common_steps, tagged_in, pass_sees c.loop-h.invariant.2, pass_needs c.loop-h.invariant.2)

pub overflow_add-total : goal.overflow_add-total
overflow_add-total c = grind (arith, common_steps, pass_sees c.loop-h.invariant.2)

pub merge_end_at-h-requires : goal.merge_end_at-h-requires
merge_end_at-h-requires c = grind (arith, common_steps, pass_sees c.loop-h.invariant.2, pass_next c.loop-h.invariant.2)

pub loop-h-smaller-then-is_of_cue : goal.loop-h-smaller-then-is_of_cue
loop-h-smaller-then-is_of_cue c = grind (arith, common_steps, pass_sees c.loop-h.invariant.2, pass_gains c.loop-h.invariant.2)

-- behind an object of the cue
pub loop-h-preserved-then-is_of_cue : goal.loop-h-preserved-then-is_of_cue
loop-h-preserved-then-is_of_cue c = grind (arith, common_steps, tagged-noted, pass_sees, pass_takes)

pub loop-h-smaller : goal.loop-h-smaller
loop-h-smaller c = grind (arith, common_steps, pass_sees c.loop-h.invariant.2)

-- behind another block
pub loop-h-preserved : goal.loop-h-preserved
loop-h-preserved c = grind (arith, common_steps, pass_sees, pass_passes)

-- the last run and the total are written, and the goal reached
pub returns : goal.returns
returns c = let l = c.loop-h in
    pass_ends l.invariant.2 _ _ _ (omega (arith, l.invariant.0, l.invariant.2.kept.high)) (sym l.invariant.0) c.settle-2.ensures c.write_total.ensures

pub stored_total-total-requires : goal.stored_total-total-requires
stored_total-total-requires c = omega (arith, (opening_parts _ _ c.requires.0).long)

pub read_header-d-requires : goal.read_header-d-requires
read_header-d-requires c = grind (arith, common_steps, pass_sees c.loop-h.invariant.2)

pub overflow_add-next : goal.overflow_add-next
overflow_add-next c = grind (arith, common_steps, pass_sees c.loop-h.invariant.2)
