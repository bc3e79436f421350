-- `store::Opened::cue_releasable` meets its contract: row 7 as the walk ends, then 21 and 22 of what it has gathered. Assumes nothing.
use Rattle.std.proofs.lemmas.Grind.{common_steps}
use Rattle.std.proofs.Common.{arith, sym}
use Rattle.block.specs.laws.Gathering.{cue_live}
use Rattle.block.specs.laws.Soundness.{sound_low}
use Rattle.block.specs.laws.Turns.{seen_at, live_holds}
use Rattle.store.specs.Opened.{seen}
use Rattle.store.proofs.Carving.{entry_needs}
use Rattle.store.proofs.Gathering.{gathers_none, gathers_taken, gathers_passed, gathers_unsound, gathers_lost, gathers_wrong, gathers_all}
use Rattle.store.proofs.Lent.{opens}
use Rattle.store.proofs.opening.Opened.cue_releasable.Goals.{then-is_of_cue, else-is_of_cue}
use Rattle.store.proofs.opening.Opened.cue_releasable.Goals as goal

pub loop-d-init : goal.loop-d-init
loop-d-init c = gathers_none _ _ _

pub overflow_add-count : goal.overflow_add-count
overflow_add-count c = grind (arith, common_steps, seen_at)

pub overflow_add-given : goal.overflow_add-given
overflow_add-given c = grind (arith, common_steps, seen_at)

pub still_held-held-requires : goal.still_held-held-requires
still_held-held-requires c =
    let at = seen_at _ _ _ (sym c.in-Some.ensures) in
    let live = cue_live _ c.in-Some.d (sym c.if-is_of_cue.ensures) in
    entry_needs (seen c.args.self.now) _ _ _ (opens c.args.self.now) (sound_low _ _ at.is_sound) (omega (arith, live_holds at live, at.inside))

pub overflow_add-h : goal.overflow_add-h
overflow_add-h c = grind (arith, common_steps, seen_at)

pub loop-d-smaller : goal.loop-d-smaller
loop-d-smaller c = grind (arith, common_steps, seen_at)

pub loop-d-preserved : goal.loop-d-preserved
loop-d-preserved c = grind (arith, common_steps, seen_at, gathers_taken, gathers_passed)

pub total_fits-requires : goal.total_fits-requires
total_fits-requires c = grind (arith, common_steps, opens c.args.self.now)

-- row 7
pub returns-then-h-image : goal.returns-then-h-image
returns-then-h-image c = gathers_unsound c.loop-d.invariant c.args.self.now.opens c.if-h-image.true (sym c.in_default.ensures)

-- row 21
pub returns-then-not-held : goal.returns-then-not-held
returns-then-not-held c = gathers_lost c.loop-d.invariant c.args.self.now.opens c.if-h-image.false c.if-not-held.true

-- row 22
pub returns-then-not-total_fits : goal.returns-then-not-total_fits
returns-then-not-total_fits c = gathers_wrong c.loop-d.invariant c.args.self.now.opens c.if-h-image.false c.if-not-held.false (sym c.if-not-total_fits.ensures)

-- all tests are passed
pub returns : goal.returns
returns c = gathers_all c.loop-d.invariant c.args.self.now.opens c.if-h-image.false c.if-not-held.false (sym c.if-not-total_fits.ensures)
