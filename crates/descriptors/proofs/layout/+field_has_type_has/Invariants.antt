-- The cycle of `type_has` and `field_has`: the descriptor's position p falls. `type_has` has the measure 2 p + 1, `field_has` 2 p. Assumes nothing.
use Rattle.std.proofs.Common.{◌+◌, ◌*◌}
use Rattle.descriptors.proofs.layout.+field_has_type_has.Given as goal

abbrev pub decreases-field_has : goal.decreases-field_has
decreases-field_has l = 2 * l.p

abbrev pub decreases-type_has : goal.decreases-type_has
decreases-type_has l = 2 * l.p + 1
