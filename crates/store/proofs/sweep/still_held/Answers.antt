-- `store::sweep::still_held` meets its contract: the object decides, where those before it are held. Assumes nothing.
use Rattle.std.proofs.Common.{arith}
use Rattle.std.proofs.lemmas.Grind.{common_steps}
use Rattle.store.specs.laws.Entries.{tagged_in, tagged-holds}
use Rattle.store.proofs.sweep.still_held.Goals as goal

pub entry_holds-requires : goal.entry_holds-requires
entry_holds-requires c = grind (arith, common_steps, tagged_in)

-- the object decides
pub returns-then-held : goal.returns-then-held
returns-then-held c = grind (arith, common_steps, tagged-holds)
