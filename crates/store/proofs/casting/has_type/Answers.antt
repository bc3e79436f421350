-- `store::has_type` meets its contract: 4 and 5, 24, 10 and 11 (`locate`), then 25. Assumes nothing.
use Rattle.std.proofs.Common.{arith, sym}
use Rattle.std.proofs.lemmas.Grind.{common_steps}
use Rattle.store.specs.Calls.{has_type, read_tag, found_at}
use Rattle.store.specs.Opened.{seen}
use Rattle.store.specs.laws.TagReading.{read_found, located-inside}
use Rattle.store.proofs.casting.has_type.Goals as goal

pub read_header-d-requires : goal.read_header-d-requires
read_header-d-requires c =
    let f = read_found _ _ (seen c.in_ok-store.store) _ (sym c.in_ok-object.ensures) in
    omega (arith, located-inside _ _ (seen c.in_ok-store.store) _ f.object)

-- row 4 or 5
pub returns-in_err-store : goal.returns-in_err-store
unfolding has_type
returns-in_err-store c = grind (arith, common_steps)

-- row 24
pub returns-then-not-good_list : goal.returns-then-not-good_list
unfolding has_type
returns-then-not-good_list c = grind (arith, common_steps)

-- row 10 or 11
pub returns-in_err-object : goal.returns-in_err-object
unfolding has_type read_tag found_at
returns-in_err-object c = grind (arith, common_steps)

-- row 25, or the answer
pub returns : goal.returns
unfolding has_type read_tag found_at
returns c = grind (arith, common_steps)
