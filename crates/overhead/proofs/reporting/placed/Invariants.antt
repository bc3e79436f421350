-- Invariant: bytes and end, with those of the sizes that are left, are those of all (`Placing`).
use Rattle.overhead.proofs.Turns.{Placing}
use Rattle.overhead.proofs.reporting.placed.Given as goal

abbrev pub invariant-loop-size : goal.invariant-loop-size
invariant-loop-size l = Placing l.sizes l.bytes l.end l.size-index
