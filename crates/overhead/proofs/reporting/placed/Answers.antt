use Rattle.std.proofs.Common.{arith}
use Rattle.overhead.specs.laws.Padding.{padded_most, padded_some}
use Rattle.overhead.specs.laws.Rows.{size_good}
use Rattle.overhead.proofs.Turns.{placing_begins, placing_goes_on, placing_ends}
use Rattle.overhead.proofs.reporting.placed.Goals as goal

pub loop-size-init : goal.loop-size-init
loop-size-init c = placing_begins _

pub overflow_add-bytes : goal.overflow_add-bytes
overflow_add-bytes c =
    let most = padded_most _ (size_good _ c.requires.good c.loop-size.size-index c.loop-size-test.true).1 in
    omega (arith, c.padded-p.ensures, most)

pub block_end-end-requires : goal.block_end-end-requires
block_end-end-requires c =
    let most = padded_most _ (size_good _ c.requires.good c.loop-size.size-index c.loop-size-test.true).1 in
    rw c.padded-p.ensures (padded_some _, omega (arith, most))

pub loop-size-preserved : goal.loop-size-preserved
loop-size-preserved c =
    rw (c.block_end-end.ensures, c.padded-p.ensures) (placing_goes_on _ c.loop-size.invariant c.loop-size-test.true c.requires.good)

pub returns-clause-bytes : goal.returns-clause-bytes
returns-clause-bytes c = (placing_ends _ c.loop-size.invariant c.loop-size-test.false).0

pub returns-clause-end : goal.returns-clause-end
returns-clause-end c = (placing_ends _ c.loop-size.invariant c.loop-size-test.false).1
