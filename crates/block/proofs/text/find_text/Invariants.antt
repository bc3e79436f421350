-- `block::text::find_text`. Invariant of either loop: the text is the one after the first i bytes. Measure: the bytes left. Assumes nothing.
use Rattle.std.proofs.Common.{◌≡◌, ◌-◌, ◌≤◌, take, drop}
use Rattle.block.specs.Text.{text_of}
use Rattle.block.specs.laws.Text.{text_after}
use Rattle.block.proofs.text.find_text.Given as goal

abbrev pub invariant-loop-i : goal.invariant-loop-i
invariant-loop-i l = (l.i ≤ l.n) × (text_of (take l.n (drop l.at l.image)) ≡ text_after l.image l.at l.n l.i)

abbrev pub decreases-loop-i : goal.decreases-loop-i
decreases-loop-i l = l.n - l.i

abbrev pub invariant-loop-i-2 : goal.invariant-loop-i-2
invariant-loop-i-2 l = (l.i ≤ l.n) × (text_of (take l.n (drop l.at l.image)) ≡ text_after l.image l.at l.n l.i)

abbrev pub decreases-loop-i-2 : goal.decreases-loop-i-2
decreases-loop-i-2 l = l.n - l.i
