-- `store::mergeable` meets its contract: 7 (`coalesce`), then 22. Assumes nothing.
use Rattle.std.proofs.Common.{arith}
use Rattle.std.proofs.lemmas.Grind.{common_steps}
use Rattle.block.specs.laws.Soundness.{sound_in, sound-end}
use Rattle.store.specs.Calls.{totalled}
use Rattle.store.specs.laws.Free.{released-place}
use Rattle.store.proofs.release.mergeable.Goals as goal

pub extent_at-requires : goal.extent_at-requires
extent_at-requires c = sound_in _ _ c.requires

pub total_fits-requires : goal.total_fits-requires
total_fits-requires c = grind (arith, common_steps, sound_in, sound-end)

pub returns-in_err-block : goal.returns-in_err-block
unfolding totalled
returns-in_err-block c = grind (arith, common_steps)

pub returns-then-not-total_fits : goal.returns-then-not-total_fits
unfolding totalled
returns-then-not-total_fits c = grind (arith, common_steps, released-place)

pub returns : goal.returns
unfolding totalled
returns c = grind (arith, common_steps, released-place)
