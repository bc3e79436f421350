-- `block::bytes::copy_up`. Invariant: just the bytes from i on are copied; those still to be read stand below them. Measure: i, the bytes left.
-- Assumes nothing.
use Rattle.std.proofs.Common.{◌≡◌, ◌+◌, ◌-◌, ◌≤◌, length, take, drop}
use Rattle.block.specs.Bytes.{put}
use Rattle.block.proofs.bytes.copy_up.Given as goal

abbrev pub invariant-loop-i : goal.invariant-loop-i
invariant-loop-i l = (l.i ≤ l.n) × (length l.image ≡ length l.initial.image) × (l.image ≡ put l.initial.image (l.to + l.i) (take (l.n - l.i) (drop (l.from + l.i) l.initial.image)))

abbrev pub decreases-loop-i : goal.decreases-loop-i
decreases-loop-i l = l.i
