use Rattle.descriptors.proofs.Turns.{search_begins, search_ends, search_finds, search_goes_on}
use Rattle.descriptors.proofs.searching.find_type.Goals as goal

pub loop-p-init : goal.loop-p-init
loop-p-init c = search_begins _ _ _

-- it is this one
pub returns-then-d-ty : goal.returns-then-d-ty
returns-then-d-ty c = search_finds _ _ _ _ c.loop-p.invariant c.loop-p-test.true _ c.read_descriptor-d.ensures c.if-d-ty.true

pub loop-p-preserved : goal.loop-p-preserved
loop-p-preserved c =
    search_goes_on _ _ _ _ c.loop-p.invariant c.loop-p-test.true _ c.read_descriptor-d.ensures c.requires c.if-d-ty.false

-- none is left
pub returns : goal.returns
returns c = search_ends _ _ _ _ c.loop-p.invariant c.loop-p-test.false
