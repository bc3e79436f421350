use Rattle.std.proofs.Common.{sym, ap, ◌∙◌, arith}
use Rattle.block.specs.Walk.{count_of, count_blocks}
use Rattle.block.specs.laws.Turns.{seen, size-inside, at_unsound}
use Rattle.block.proofs.Counting.{counts_none, counts_all, counts_live, counts-free}
use Rattle.block.proofs.walk.count_blocks.Goals as goal
use Rattle.block.proofs.walk.count_blocks.Goals.{then-d-eq-LIVE, else-d-eq-LIVE}

pub loop-d-init : goal.loop-d-init
loop-d-init c = counts_none _

pub overflow_add-free : goal.overflow_add-free
overflow_add-free c =
    let s = seen c.examine.ensures c.in-Some.is in
    omega (arith, c.loop-d.invariant.below)

pub overflow_add-live : goal.overflow_add-live
overflow_add-live c =
    let s = seen c.examine.ensures c.in-Some.is in
    omega (arith, c.loop-d.invariant.below, size-inside s)

pub loop-d-preserved : goal.loop-d-preserved
loop-d-preserved c =
    let s = seen c.examine.ensures c.in-Some.is in
    let w = c.loop-d.invariant in
    elim c.if-d-eq-LIVE.branch [
      | then-d-eq-LIVE j ↦ rw (j.objects-is, j.free-is) (counts_live w s j.if-d-eq-LIVE.true)
      | else-d-eq-LIVE j ↦ rw (j.objects-is, j.free-is) (counts-free w s j.if-d-eq-LIVE.false)
    ]

-- an unsound header
pub returns-then-h-len : goal.returns-then-h-len
unfolding count_blocks count_of
returns-then-h-len c = ap count_of (at_unsound c.loop-d.invariant.rest c.if-h-len.true (sym c.examine.ensures ∙ c.in_default.is))

-- the image's end
pub returns : goal.returns
returns c = counts_all c.loop-d.invariant c.if-h-len.false
