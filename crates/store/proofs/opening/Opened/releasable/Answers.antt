-- `store::Opened::releasable` meets its contract: `base_of`, then `mergeable`. Assumes nothing.
use Rattle.std.proofs.Common.{arith}
use Rattle.std.proofs.lemmas.Grind.{common_steps}
use Rattle.store.specs.Calls.{free_release, released_at, totalled}
use Rattle.store.specs.laws.Free.{free-sound}
use Rattle.store.proofs.opening.Opened.releasable.Goals as goal

pub mergeable-requires : goal.mergeable-requires
mergeable-requires c = grind (arith, common_steps, free-sound)

pub returns-in_err-h : goal.returns-in_err-h
unfolding free_release released_at totalled
returns-in_err-h c = grind (arith, common_steps)

pub returns : goal.returns
unfolding free_release released_at
returns c = grind (arith, common_steps)
