use Rattle.std.proofs.Common.{arith}
use Rattle.dump.proofs.Entries.{begun, turn, ended}
use Rattle.dump.proofs.put_entries.Goals as goal

pub loop-i-init : goal.loop-i-init
loop-i-init c = begun c.requires

pub loop-i-preserved : goal.loop-i-preserved
loop-i-preserved c = let l = c.loop-i in rw c.write.ensures (turn l.invariant (omega arith) c.loop-i-test.true)

-- all entries are put
pub returns : goal.returns
returns c = ended c.loop-i.invariant c.loop-i-test.false
