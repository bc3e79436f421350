use Rattle.std.proofs.lemmas.Bool.{lt-leb}
use Rattle.std.proofs.Common.{◌≡◌, false, sym, ap, ◌∙◌, ⊎_elim, eq-eqb, ne_eqb, le-leb}
use Rattle.std.proofs.Math.Bool.{and-false}
use Rattle.block.specs.Walk.{fitting, fit_of, first_fit}
use Rattle.block.specs.laws.Turns.{seen, begins, at-end, at_unsound, at_stop, goes_on}
use Rattle.block.proofs.walk.first_fit.Goals as goal

pub loop-d-init : goal.loop-d-init
loop-d-init c = begins _ _ _

pub loop-d-preserved : goal.loop-d-preserved
loop-d-preserved c =
    let s = seen c.examine.ensures c.in-Some.is in
    let passed : (fitting c.args.need).stops c.loop-d.h c.in-Some.d ≡ false = ⊎_elim (λ w. simp (and-false, lt-leb c.args.need c.in-Some.d.extent w.1)) (λ w. simp (ne_eqb c.in-Some.d.kind 1 w)) c.else-d-eq-FREE.either in
    goes_on c.loop-d.invariant s passed

-- the image's end
pub returns-then-h-len : goal.returns-then-h-len
unfolding first_fit fit_of
returns-then-h-len c = ap fit_of (at-end c.loop-d.invariant c.if-h-len.true)

-- an unsound header
pub returns-else-h-len : goal.returns-else-h-len
unfolding first_fit fit_of
returns-else-h-len c = ap fit_of (at_unsound c.loop-d.invariant c.if-h-len.false (sym c.examine.ensures ∙ c.in_default.is))

-- a free block that is long enough
pub returns-then-need-d : goal.returns-then-need-d
unfolding first_fit fit_of
returns-then-need-d c =
    let s = seen c.examine.ensures c.in-Some.is in
    ap fit_of (at_stop c.loop-d.invariant s (simp (eq-eqb _ _ c.if-d-eq-FREE.true, le-leb _ _ c.if-need-d.true)))
