use Rattle.std.proofs.Common.{arith, rules}
use Rattle.std.proofs.lemmas.Iterator.{YieldsList-from_range, YieldsList-from_map}
use Rattle.std.proofs.lemmas.Iterator.Consumers.{reduce_from_yields_List}
use Rattle.placement.proofs.Searching.{lesser, pair, least_is_best}
use Rattle.placement.proofs.search.search.Goals as goal

-- the chain gives the least of the pairs
pub returns : goal.returns
returns c =
    rw (reduce_from_yields_List lesser _ _ c.min.ensures.ran
    (YieldsList-from_map _ (pair c.args.s c.args.sizes.now) (YieldsList-from_range 0 _ c.args.tried c.map.ensures.source (omega arith))
    c.map.ensures.closure (λ x r q k. search rules)))
    (least_is_best _ _ _ c.requires.most)
