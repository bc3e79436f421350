use Rattle.std.proofs.Common.{arith, sym, ◌∙◌}
use Rattle.std.proofs.lemmas.Grind.{common_steps}
use Rattle.descriptors.specs.laws.Lookups.{whole-inside}
use Rattle.descriptors.specs.laws.Lists.{headed-length, good_parts}
use Rattle.descriptors.specs.laws.Checks.{checking_begins, checking_ends, checking_fails, checking_goes_on}
use Rattle.descriptors.proofs.checking.good_list.Goals as goal

pub loop-p-init : goal.loop-p-init
loop-p-init c = checking_begins _

-- a bad descriptor
pub returns-then-not-good_descriptor : goal.returns-then-not-good_descriptor
returns-then-not-good_descriptor c =
    checking_fails _ _ c.loop-p.invariant (λ e. omega arith) (sym c.good_descriptor.ensures ∙ c.if-not-good_descriptor.true)

pub read_descriptor-p-requires : goal.read_descriptor-p-requires
read_descriptor-p-requires c = (good_parts _ _ (sym c.good_descriptor.ensures ∙ c.if-not-good_descriptor.false)).at_head.head

pub overflow_add-p : goal.overflow_add-p
overflow_add-p c = grind (arith, common_steps, good_parts, headed-length)

pub loop-p-smaller : goal.loop-p-smaller
loop-p-smaller c = grind (arith, common_steps, good_parts, headed-length)

pub loop-p-preserved : goal.loop-p-preserved
loop-p-preserved c =
    rw c.read_descriptor-p.ensures
    (checking_goes_on _ _ c.loop-p.invariant (λ e. omega arith) (sym c.good_descriptor.ensures ∙ c.if-not-good_descriptor.false))

-- the end
pub returns : goal.returns
returns c = checking_ends _ _ c.loop-p.invariant (omega (arith, whole-inside _ _ c.loop-p.invariant.whole))
