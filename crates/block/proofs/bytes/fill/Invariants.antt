-- `block::bytes::fill`. Invariant: the bytes passed are set. Assumes nothing.
use Rattle.std.proofs.Common.{◌≡◌, take, replicate}
use Rattle.block.proofs.bytes.fill.Given as goal

abbrev pub invariant-loop-b : goal.invariant-loop-b
invariant-loop-b l = take l.b-index l.b-items ≡ replicate l.b-index l.byte
