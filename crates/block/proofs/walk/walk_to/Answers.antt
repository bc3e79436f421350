use Rattle.std.proofs.lemmas.Bool.{lt-leb}
use Rattle.std.proofs.Common.{sym, ◌∙◌, arith, eq-eqb, ne_eqb, le-leb}
use Rattle.block.specs.Walk.{met_of, walk_to}
use Rattle.block.specs.laws.Turns.{seen, begins, at_stop, goes_on}
use Rattle.block.specs.laws.WalkTo.{walk_to_lost}
use Rattle.block.proofs.walk.walk_to.Goals as goal

pub loop-d-init : goal.loop-d-init
loop-d-init c = begins _ _ _

pub loop-d-preserved : goal.loop-d-preserved
loop-d-preserved c =
    let s = seen c.examine.ensures c.in-Some.is in
    goes_on c.loop-d.invariant s (lt-leb c.args.target c.loop-d.h (omega arith))

-- the block at the target
pub returns-then-h-target : goal.returns-then-h-target
unfolding walk_to met_of
returns-then-h-target c =
    let s = seen c.examine.ensures c.in-Some.is in
    rw (← at_stop c.loop-d.invariant s (le-leb c.args.target c.loop-d.h (omega arith)), eq-eqb _ _ c.if-h-target.true)

-- the first block above the target
pub returns-else-h-target : goal.returns-else-h-target
unfolding walk_to met_of
returns-else-h-target c =
    let s = seen c.examine.ensures c.in-Some.is in
    rw (← at_stop c.loop-d.invariant s (le-leb c.args.target c.loop-d.h (omega arith)), ne_eqb _ _ c.if-h-target.false)

-- no sound header
pub returns : goal.returns
returns c = walk_to_lost _ c.loop-d.invariant (sym c.examine.ensures ∙ c.in_default.is)
