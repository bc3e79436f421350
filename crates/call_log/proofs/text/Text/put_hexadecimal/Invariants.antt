-- `call_log::text::Text::put_hexadecimal`. Invariant: the last k digits are still to be put. Assumes nothing.
use Rattle.call_log.proofs.Texts.{Putting}
use Rattle.call_log.proofs.text.Text.put_hexadecimal.Given as goal

abbrev pub invariant-loop-k : goal.invariant-loop-k
invariant-loop-k l = Putting l.initial.self l.v l.k l.self
