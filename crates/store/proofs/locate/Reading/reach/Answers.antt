-- `store::locate::Reading::reach`: the definition's test. Assumes nothing.
use Rattle.std.proofs.Common.{arith}
use Rattle.std.proofs.lemmas.Grind.{common_steps}
use Rattle.store.specs.laws.Access.{reached_by}
use Rattle.store.proofs.locate.Reading.reach.Goals as goal

pub returns-then-not-in_body : goal.returns-then-not-in_body
unfolding reached_by
returns-then-not-in_body c = grind (arith, common_steps)

pub returns : goal.returns
unfolding reached_by
returns c = grind (arith, common_steps)
