use Rattle.std.proofs.Common.{◌≡◌, ltb, ◌^◌, ◌+◌, count_by, sym, ◌∙◌, rules}
use Rattle.placement.proofs.Turns.{floor_count}
use Rattle.placement.proofs.plan.floor_of.Goals as goal

pub returns : goal.returns
returns c =
    let counts : c.count.result ≡ count_by (λ size. ltb (2 ^ c.args.s) (17 + size)) c.args.sizes.now = search rules in
    counts ∙ sym (floor_count _ _)
