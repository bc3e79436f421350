use Rattle.std.proofs.Common.{arith}
use Rattle.overhead.proofs.Turns.{next_power}
use Rattle.overhead.proofs.padding.padded.Goals as goal

pub returns : goal.returns
returns c =
    let p = c.next_power_of_two.ensures in
    next_power _ _ p.power (omega (arith, p.lower_bound)) (omega (arith, p.upper_bound))
