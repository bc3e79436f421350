-- Demand 2: first fit takes the lowest block that fits. Assumes nothing.
use Rattle.block.specs.Walk.{TakesLowest}
use Rattle.block.specs.laws.FirstFit.{first_fit_lowest}

pub takes_lowest : TakesLowest
unfolding TakesLowest
takes_lowest = first_fit_lowest
