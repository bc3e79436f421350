-- `store::described` meets its contract: the search, then the size. Assumes nothing.
use Rattle.std.proofs.Common.{arith, sym, ◌∙◌}
use Rattle.std.proofs.lemmas.Grind.{common_steps}
use Rattle.descriptors.specs.laws.Lists.{head_here, end_reached, lookup_stands}
use Rattle.store.specs.laws.Casts.{described_unlisted, described_short, described-at}
use Rattle.store.proofs.Lent.{ok_or_some}
use Rattle.store.proofs.casting.described.Goals as goal

pub find_type-requires : goal.find_type-requires
find_type-requires c = end_reached _ c.requires

pub read_descriptor-requires : goal.read_descriptor-requires
read_descriptor-requires c = head_here _ _ (lookup_stands _ c.requires _ _ (sym c.find_type.ensures ∙ ok_or_some _ _ _ c.in_ok-q.ensures.value))

pub returns-in_err-q : goal.returns-in_err-q
returns-in_err-q c = grind (arith, common_steps, described_unlisted)

pub returns-then-size-read_descriptor : goal.returns-then-size-read_descriptor
returns-then-size-read_descriptor c = grind (arith, common_steps, described_short)

pub returns : goal.returns
returns c = grind (arith, common_steps, described-at)
