use Rattle.std.proofs.Common.{◌≡◌, ◌+◌, min, sym, refl, arith}
use Rattle.block.specs.laws.Writes.{put_nil}
use Rattle.block.proofs.Runs.{down_turn}
use Rattle.block.proofs.bytes.copy_down.Goals as goal

pub loop-i-init : goal.loop-i-init
loop-i-init c =
    let e : min 0 c.args.n ≡ 0 = omega arith in
    (refl, rw e (sym (put_nil _ _)))

pub loop-i-preserved : goal.loop-i-preserved
loop-i-preserved c =
    let e : min c.loop-i.i c.args.n ≡ c.loop-i.i = omega arith in
    let k : c.loop-i.i + c.min.result ≡ min (c.loop-i.i + 16384) c.args.n = omega arith in (
      omega arith,
      rw (c.copy_part.ensures, ← k) (down_turn _ _ _ _ c.args.n _ _ (omega arith) (omega arith) (omega arith) (rw e at c.loop-i.invariant.1)),
    )

-- the last part
pub returns-2 : goal.returns-2
returns-2 c =
    let e : min c.loop-i.i c.args.n ≡ c.loop-i.i = omega arith in
    let k : c.loop-i.i + c.min.result ≡ c.args.n = omega arith in
    rw (c.copy_part.ensures, ← k) (down_turn _ _ _ _ c.args.n _ _ (omega arith) (omega arith) (omega arith) (rw e at c.loop-i.invariant.1))
