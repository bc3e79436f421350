-- `store::allocate_for` meets its contract: refused by its tests, or the block is taken and noted. Assumes nothing.
use Rattle.std.proofs.lemmas.Grind.{common_steps}
use Rattle.std.specs.Prelude.{◌≡◌, ℕ, Ok}
use Rattle.std.proofs.Common.{arith, sym, ap, ◌∙◌}
use Rattle.frame.specs.laws.Tags.{tagged, tagged_pointer_lem, pointer_range}
use Rattle.store.specs.State.{State}
use Rattle.store.specs.Calls.{allocate_checks, allocate_for}
use Rattle.store.specs.laws.Opening.{Open}
use Rattle.store.specs.Opened.{seen}
use Rattle.store.specs.laws.Entries.{tagged_in, tagged-noted}
use Rattle.store.specs.laws.Allocate.{Allocates, site_of, site_declined, site_chosen, allocate_parts, allocate_shut, allocate_declined}
use Rattle.store.specs.declared.allocation.Site.{Site}
use Rattle.store.specs.declared.opening.Opened.{Opened}
use Rattle.store.proofs.Lent.{opened}
use Rattle.store.proofs.allocation.allocate_for.Goals as goal

-- where its rows are passed: the block that the tests found, and the object's tag
record Placed (size : ℕ) (o : Opened) (x : State) (site : Site) : Type 0 where
  pub found : allocate_checks size x ≡ Ok site.header
  pub tag : site.tagged ≡ tagged o.s site.header size
  pub allocates : Allocates size x site.header
  pub opens : Open x o.s

placed : (size : ℕ) (o : Opened) (x : State) (site : Site) → seen o ≡ x → Ok site ≡ site_of o.s size (allocate_checks size (seen o)) → Placed size o x site
placed size o x site e q =
    let (found, t) = site_chosen o.s size _ site.header site.tagged (sym q) in
    let f : allocate_checks size x ≡ Ok site.header = sym (ap (allocate_checks size) e) ∙ found in
    record { found = f; tag = t; allocates = allocate_parts size x site.header f; opens = opened o x e }

pub allot-requires : goal.allot-requires
allot-requires c = grind (arith, common_steps, placed _ c.in_ok-new.field-0 _ _ c.in_ok-new.ensures c.in_ok-site.ensures)

pub note-requires : goal.note-requires
note-requires c = grind (arith, common_steps, placed _ c.in_ok-new.field-0 _ _ c.in_ok-new.ensures c.in_ok-site.ensures, tagged_in)

pub pack-requires : goal.pack-requires
pack-requires c = grind (arith, common_steps, placed _ c.in_ok-new.field-0 _ _ c.in_ok-new.ensures c.in_ok-site.ensures, tagged_pointer_lem, pointer_range)

-- row 4 or 5
pub returns-in_err-new : goal.returns-in_err-new
unfolding allocate_for
returns-in_err-new c = grind (arith, common_steps, allocate_shut)

-- row 7, 8, 9 or 22
pub returns-in_err-site : goal.returns-in_err-site
returns-in_err-site c = grind (arith, common_steps, site_declined, allocate_declined)

-- the object
pub returns : goal.returns
unfolding allocate_for
returns c = grind (arith, common_steps, placed _ c.in_ok-new.field-0 _ _ c.in_ok-new.ensures c.in_ok-site.ensures, tagged_pointer_lem, tagged-noted)
