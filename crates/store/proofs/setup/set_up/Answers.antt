-- `store::set_up` meets its contract: refused by `settable`, or the image is laid out and the used entries are cleared. Assumes nothing.
use Rattle.std.proofs.Common.{arith}
use Rattle.std.proofs.lemmas.Grind.{common_steps}
use Rattle.store.specs.Calls.{set_up}
use Rattle.store.specs.laws.SetUp.{settable_parts}
use Rattle.store.proofs.setup.set_up.Goals as goal

pub used_entries-used-requires : goal.used_entries-used-requires
used_entries-used-requires c = grind (arith, common_steps, settable_parts)

pub lay_out-requires : goal.lay_out-requires
lay_out-requires c = grind (arith, common_steps, settable_parts)

pub clear_entries-requires : goal.clear_entries-requires
clear_entries-requires c = grind (arith, common_steps, settable_parts)

pub returns : goal.returns
unfolding set_up
returns c = grind (arith, common_steps)

pub returns-in_err-settable : goal.returns-in_err-settable
unfolding set_up
returns-in_err-settable c = grind (arith, common_steps)
