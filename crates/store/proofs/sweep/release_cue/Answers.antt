-- `store::release_cue` meets its contract: refused by its tests, or the pass frees the objects. Assumes nothing.
use Rattle.std.proofs.Common.{arith}
use Rattle.std.proofs.lemmas.Grind.{common_steps}
use Rattle.store.specs.Calls.{release_cue}
use Rattle.store.specs.laws.Release.{release_shut}
use Rattle.store.proofs.sweep.release_cue.Goals as goal

-- row 4 or 5
pub returns-in_err-store : goal.returns-in_err-store
unfolding release_cue
returns-in_err-store c = grind (arith, common_steps, release_shut)

-- row 7, 21 or 22
pub returns-in_err-n : goal.returns-in_err-n
unfolding release_cue
returns-in_err-n c = grind (arith, common_steps)

-- the objects are freed
pub returns : goal.returns
unfolding release_cue
returns c = grind (arith, common_steps)
