-- `block::bytes::copy_down`. Invariant: just the first i bytes are copied; those still to be read stand above them. Assumes nothing.
use Rattle.std.proofs.Common.{◌≡◌, min, length, take, drop}
use Rattle.block.specs.Bytes.{put}
use Rattle.block.proofs.bytes.copy_down.Given as goal

abbrev pub invariant-loop-i : goal.invariant-loop-i
invariant-loop-i l = (length l.image ≡ length l.initial.image) × (l.image ≡ put l.initial.image l.to (take (min l.i l.n) (drop l.from l.initial.image)))
