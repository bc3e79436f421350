use Rattle.std.proofs.Common.{refl, get_or, sym, ◌∙◌, ap, arith}
use Rattle.placement.specs.laws.Counts.{small_here, large_here}
use Rattle.placement.specs.laws.Rows.{planned}
use Rattle.placement.proofs.Picking.{counting_begins, counting_goes_on, counting_ends}
use Rattle.placement.proofs.counting.large_of.Goals as goal

pub new-place-items-requires-clause-few : goal.new-place-items-requires-clause-few
new-place-items-requires-clause-few c = (planned _ _ c.requires.plan).few

pub loop-place-init : goal.loop-place-init
loop-place-init c =
    let is = c.new-place-items.ensures in
    let order_is = rw (← c.into_iter-place-iterator.ensures.into_iter_gives) at is in
    record { can = tt; ends = tt; counted = counting_begins _ _ _ _ (planned _ _ c.requires.plan).few c.requires.below order_is }

pub same_frame-requires : goal.same_frame-requires
same_frame-requires c = omega (arith, (planned _ _ c.requires.plan).most)

pub loop-place-preserved-then-not-same_frame : goal.loop-place-preserved-then-not-same_frame
loop-place-preserved-then-not-same_frame c =
    let now = c.loop-place in
    let size = c.from-in-loop-place in
    let sizes = c.type_inv.sizes c.from.result in
    let one = large_here c.args.s now.h size.result (sym c.same_frame.ensures ∙ c.if-not-same_frame.true) in
    record {
      can = tt;
      ends = tt;
      counted =
          counting_goes_on _ _ _ _ _ _ _ _ _ _ _ now.invariant.counted c.in-Some.ensures.steps
          (size.ensures ∙ ap (λ k. get_or c.args.sizes.now k 0) c.from.ensures) (omega (arith, size.ensures, sizes.fits)) (omega (arith, one)) refl;
    }

pub loop-place-preserved : goal.loop-place-preserved
loop-place-preserved c =
    let now = c.loop-place in
    let size = c.from-in-loop-place in
    let sizes = c.type_inv.sizes c.from.result in
    let none = small_here c.args.s now.h size.result (sym c.same_frame.ensures ∙ c.if-not-same_frame.false) in
    record {
      can = tt;
      ends = tt;
      counted =
          counting_goes_on _ _ _ _ _ _ _ _ _ _ _ now.invariant.counted c.in-Some.ensures.steps
          (size.ensures ∙ ap (λ k. get_or c.args.sizes.now k 0) c.from.ensures) (omega (arith, size.ensures, sizes.fits)) (omega (arith, none)) refl;
    }

pub returns : goal.returns
returns c = counting_ends _ _ _ _ _ _ c.loop-place.invariant.counted c.in-None.ensures.steps.0
