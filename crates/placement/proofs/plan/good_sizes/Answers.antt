use Rattle.std.proofs.Common.{leb, sym, ◌∙◌, rules, tests}
use Rattle.std.proofs.lemmas.Iterator.{YieldsList-from_slice}
use Rattle.std.proofs.lemmas.Iterator.Search.{all_from_yields_List}
use Rattle.placement.proofs.Turns.{good_all}
use Rattle.placement.proofs.plan.good_sizes.Goals as goal

pub returns : goal.returns
returns c =
    all_from_yields_List (λ size. leb size 65535) _ _ _ c.all.ensures.ran (YieldsList-from_slice c.args.sizes.now cc) (λ x b q k. search (rules, tests))
    ∙ sym (good_all _)
