-- `store::sweep::settle` meets its contract: a run is written, or there is none. Assumes nothing.
use Rattle.store.specs.laws.Sweep.{settled}
use Rattle.store.proofs.sweep.settle.Goals as goal

-- a run
pub returns-then-run : goal.returns-then-run
unfolding settled
returns-then-run c = rw c.if-run.true c.merge.ensures

-- none
pub returns-else-run : goal.returns-else-run
unfolding settled
returns-else-run c = rw c.if-run.false
