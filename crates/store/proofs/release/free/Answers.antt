-- `store::free` meets its contract: refused by its tests, or the block is given back and the entry is cleared. Assumes nothing.
use Rattle.std.specs.Prelude.{◌≡◌, ℕ, Ok}
use Rattle.std.proofs.Common.{arith, sym, ap, ◌∙◌}
use Rattle.std.proofs.lemmas.Grind.{common_steps}
use Rattle.frame.specs.laws.Pointers.{good_large, reach-large}
use Rattle.frame.specs.laws.Wrappers.{entry_used}
use Rattle.store.specs.State.{State}
use Rattle.store.specs.Calls.{free, free_release, freed}
use Rattle.store.specs.Opened.{seen}
use Rattle.store.specs.laws.Entries.{cleared-noted}
use Rattle.store.specs.laws.Free.{Frees, free_parts, free_shut}
use Rattle.store.specs.declared.opening.Opened.{Opened}
use Rattle.store.specs.declared.release.FreedBlock.{FreedBlock}
use Rattle.store.proofs.Lent.{opened}
use Rattle.store.proofs.release.free.Goals as goal

-- what is known where its rows are passed

accepted : (word : ℕ) (o : Opened) (x : State) (b : FreedBlock) → seen o ≡ x → Ok b ≡ free_release word (seen o) → Frees word x b.header b.from b.to
accepted word o x b e q = free_parts word x _ _ _ (sym (ap (free_release word) e) ∙ sym q)

pub give_back-requires : goal.give_back-requires
give_back-requires c = grind (arith, common_steps, accepted _ c.in_ok-store.store _ _ c.in_ok-store.ensures c.in_ok-block.ensures)

pub clear_entry-requires : goal.clear_entry-requires
clear_entry-requires c =
    grind (
      arith,
      common_steps,
      opened c.in_ok-store.store _ c.in_ok-store.ensures,
      accepted _ c.in_ok-store.store _ _ c.in_ok-store.ensures c.in_ok-block.ensures,
      good_large,
      reach-large,
      entry_used,
    )

-- row 4 or 5
pub returns-in_err-store : goal.returns-in_err-store
unfolding free freed
returns-in_err-store c = grind (arith, common_steps, free_shut)

-- row 10, 11, 15, 7 or 22
pub returns-in_err-block : goal.returns-in_err-block
unfolding free freed
returns-in_err-block c = grind (arith, common_steps)

-- the object is freed
pub returns : goal.returns
unfolding free freed
returns c =
    grind (
      arith,
      common_steps,
      opened c.in_ok-store.store _ c.in_ok-store.ensures,
      accepted _ c.in_ok-store.store _ _ c.in_ok-store.ensures c.in_ok-block.ensures,
      cleared-noted,
    )
