use Rattle.placement.specs.laws.Digits.{picks_order}
use Rattle.placement.proofs.orders.Picks.new.Goals as goal

pub returns : goal.returns
returns c = picks_order _ _ c.requires.few c.requires.below
