-- `store::Opened::allocatable` meets its contract: 7 or 8 as first fit ends, then 9 (`entry_holds`), then 22. Assumes nothing.
use Rattle.std.proofs.Common.{arith, sym, ◌∙◌}
use Rattle.std.proofs.lemmas.Grind.{common_steps}
use Rattle.block.specs.laws.FirstFit.{first_fit_lowest}
use Rattle.store.specs.Opened.{seen}
use Rattle.store.specs.laws.Entries.{tagged_in}
use Rattle.store.specs.laws.Allocate.{site_refused, allocate_unsound, allocate_full}
use Rattle.store.proofs.Carving.{fit_needs, site_taken, site_wrong, site_found}
use Rattle.store.proofs.Lent.{opens}
use Rattle.store.proofs.opening.Opened.allocatable.Goals as goal

pub tag_object-tagged-requires : goal.tag_object-tagged-requires
tag_object-tagged-requires c =
    grind (arith, common_steps, fit_needs (seen c.args.self.now) _ _ _ (opens c.args.self.now) (sym c.first_fit.ensures ∙ c.in-At.is))

pub entry_holds-requires : goal.entry_holds-requires
entry_holds-requires c =
    grind (arith, common_steps, tagged_in, fit_needs (seen c.args.self.now) _ _ _ (opens c.args.self.now) (sym c.first_fit.ensures ∙ c.in-At.is))

pub stored_total-requires : goal.stored_total-requires
stored_total-requires c = omega (arith, (opens c.args.self.now).long)

pub taken_extent-requires : goal.taken_extent-requires
taken_extent-requires c = grind (arith, common_steps, first_fit_lowest _ _ _ (sym c.first_fit.ensures ∙ c.in-At.is))

-- row 9
pub returns-then-not-entry_holds : goal.returns-then-not-entry_holds
returns-then-not-entry_holds c = grind (arith, common_steps, site_taken)

-- row 22
pub returns-then-stored_total-taken_extent : goal.returns-then-stored_total-taken_extent
returns-then-stored_total-taken_extent c = grind (arith, common_steps, site_wrong)

-- row 7
pub returns-in-Unsound : goal.returns-in-Unsound
returns-in-Unsound c = grind (arith, common_steps, site_refused, allocate_unsound)

-- row 8
pub returns-in-End : goal.returns-in-End
returns-in-End c = grind (arith, common_steps, site_refused, allocate_full)

-- the block at h is taken
pub returns-else-stored_total-taken_extent : goal.returns-else-stored_total-taken_extent
returns-else-stored_total-taken_extent c = grind (arith, common_steps, site_found)
