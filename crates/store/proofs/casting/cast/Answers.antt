-- `store::cast` meets its contract: 25, then the answer. Assumes nothing.
use Rattle.std.proofs.Common.{arith, sym}
use Rattle.std.proofs.lemmas.Grind.{common_steps}
use Rattle.descriptors.specs.laws.Lists.{lookup_stands}
use Rattle.store.specs.Calls.{cast_answer}
use Rattle.store.specs.laws.Casts.{described_parts}
use Rattle.store.proofs.casting.cast.Goals as goal

pub has_at-requires : goal.has_at-requires
has_at-requires c = lookup_stands _ c.requires _ _ (described_parts _ _ _ _ (sym c.in_ok-q.ensures)).0

pub returns-in_err-q : goal.returns-in_err-q
unfolding cast_answer
returns-in_err-q c = grind (arith, common_steps)

pub returns : goal.returns
unfolding cast_answer
returns c = grind (arith, common_steps)
