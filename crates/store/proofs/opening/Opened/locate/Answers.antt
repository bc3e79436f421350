-- `store::Opened::locate` meets its contract: small-framed or large-framed, by the flag. Assumes nothing.
use Rattle.std.proofs.Common.{arith}
use Rattle.std.proofs.lemmas.Grind.{common_steps}
use Rattle.frame.specs.laws.Pointers.{unpack_range}
use Rattle.store.proofs.opening.Opened.locate.Goals as goal

pub small_object-requires : goal.small_object-requires
small_object-requires c = grind (arith, common_steps, unpack_range)

pub large_object-requires : goal.large_object-requires
large_object-requires c = grind (arith, common_steps, unpack_range)
