-- `store::store_byte` meets its contract: as `store`, whose 14 and 16 a byte passes. Assumes nothing.
use Rattle.std.proofs.Common.{arith}
use Rattle.std.proofs.lemmas.Grind.{common_steps}
use Rattle.store.specs.Calls.{store, store_checks, accessed}
use Rattle.frame.specs.Pointers.{unpack}
use Rattle.store.specs.laws.Access.{accessed_parts}
use Rattle.store.proofs.Lent.{met}
use Rattle.store.proofs.access.store_byte.Goals as goal

pub write-requires : goal.write-requires
write-requires c = (omega arith, (accessed_parts _ _ _ _ _ (met (accessed _ (unpack _) 1) c.in_ok-new.ensures c.in_ok-at.ensures)).inside)

-- row 4 or 5
pub returns-in_err-new : goal.returns-in_err-new
unfolding store store_checks
returns-in_err-new c = grind (arith, common_steps)

-- row 10, 11 or 13
pub returns-in_err-at : goal.returns-in_err-at
unfolding store store_checks
returns-in_err-at c = grind (arith, common_steps)

-- the byte is written
pub returns : goal.returns
unfolding store store_checks
returns c = grind (arith, common_steps)
