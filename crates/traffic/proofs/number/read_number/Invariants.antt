-- `traffic::number::read_number`. Invariant: the value so far fits, and with the bytes left it gives the word's number. Assumes nothing.
use Rattle.traffic.proofs.Numbers.{Read}
use Rattle.traffic.proofs.number.read_number.Given as goal

abbrev pub invariant-loop-b : goal.invariant-loop-b
invariant-loop-b l = Read l.word l.value l.b-index
