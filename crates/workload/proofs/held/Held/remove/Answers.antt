-- `workload::held::Held::remove`. Assumes nothing.
use Rattle.std.proofs.Common.{◌-◌, ◌<◌, length, take, ap, ◌∙◌, arith, length-take-le}
use Rattle.workload.specs.Choice.{remove_at}
use Rattle.workload.proofs.Pointers.{removed}
use Rattle.workload.proofs.held.Held.remove.Goals as goal

pub returns : goal.returns
returns c =
    let q = c.self.inside in
    let below : c.args.i < q.count = omega (arith, ap length c.self.view_is, length-take-le q.count q.pointers) in
    ap (take (q.count - 1)) c.copy_within.ensures.after ∙ removed q.pointers c.args.i q.count below (omega arith) ∙ ap (remove_at c.args.i) c.self.view_is
