-- `store::Opened::access` meets its contract: 10 and 11 by the flag, then 13. Assumes nothing.
use Rattle.std.proofs.Common.{arith, sym, ◌∙◌}
use Rattle.std.proofs.lemmas.Grind.{common_steps}
use Rattle.std.proofs.lemmas.Result.{err_from_is_err_and}
use Rattle.frame.specs.laws.Pointers.{unpack_range}
use Rattle.store.proofs.Tags.{access_refused, access_reached}
use Rattle.store.proofs.opening.Opened.access.Goals as goal

pub small_object-requires : goal.small_object-requires
small_object-requires c = grind (arith, common_steps, unpack_range)

pub large_object-requires : goal.large_object-requires
large_object-requires c = grind (arith, common_steps, unpack_range)

-- row 10 or 11

pub returns-in_err-small_object : goal.returns-in_err-small_object
returns-in_err-small_object c =
    let p = err_from_is_err_and c.from_residual.result c.from_residual.ensures.1 in
    rw (p.1, p.2, ← c.unpack-p.ensures) (access_refused _ _ _ _ _ (sym c.in_err-small_object.ensures))

pub returns-in_err-large_object : goal.returns-in_err-large_object
returns-in_err-large_object c =
    let p = err_from_is_err_and c.from_residual-in_err-large_object.result c.from_residual-in_err-large_object.ensures.1 in
    rw (p.1, p.2, ← c.unpack-p.ensures) (access_refused _ _ _ _ _ (sym c.in_err-large_object.ensures))

-- row 13, or the address

pub returns-in_ok-small_object : goal.returns-in_ok-small_object
returns-in_ok-small_object c = rw (← c.unpack-p.ensures) (c.reach.ensures ∙ access_reached _ _ _ _ _ (sym c.in_ok-small_object.ensures))

pub returns-in_ok-large_object : goal.returns-in_ok-large_object
returns-in_ok-large_object c = rw (← c.unpack-p.ensures) (c.reach-else-p.ensures ∙ access_reached _ _ _ _ _ (sym c.in_ok-large_object.ensures))
