use Rattle.std.proofs.Common.{◌≡◌, ◌-◌, sym, refl, arith}
use Rattle.block.specs.laws.Writes.{put_nil}
use Rattle.block.proofs.Runs.{up_turn}
use Rattle.block.proofs.bytes.copy_up.Goals as goal

pub loop-i-init : goal.loop-i-init
loop-i-init c =
    let e : c.args.n - c.args.n ≡ 0 = omega arith in
    (omega arith, refl, rw e (sym (put_nil _ _)))

pub loop-i-preserved : goal.loop-i-preserved
loop-i-preserved c = (
  omega arith,
  omega arith,
  rw c.copy_part.ensures (up_turn _ _ _ _ c.args.n _ _ (omega arith) (omega arith) (omega arith) (omega arith) c.loop-i.invariant.2),
)
