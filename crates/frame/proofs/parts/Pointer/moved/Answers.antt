-- `frame::Pointer::moved`: the wrapped sum of address and distance is an address of the frame, or not (`Moves`). Assumes nothing.
use Rattle.std.proofs.Common.{◌^◌, arith, lt-ltb, le-ltb, eq-eqb, ne_eqb}
use Rattle.std.proofs.Math.Bool.{and-false}
use Rattle.frame.specs.Pointers.{landed}
use Rattle.frame.proofs.Moves.{moved_wrapped}
use Rattle.frame.proofs.parts.Pointer.moved.Goals as goal
use Rattle.frame.proofs.parts.Pointer.moved.Goals.{else-to-le281474976710655-via-then-to-le281474976710655+else-to-n, else-to-le281474976710655-via-else-to-le281474976710655}

pub returns-then-to-n : goal.returns-then-to-n
unfolding landed
returns-then-to-n c =
    rw (← moved_wrapped c.args.self c.args.n c.args.distance _ c.requires.0 c.ranges.distance c.wrapping_add_signed-to.ensures)
    (simp (lt-ltb c.wrapping_add_signed-to.result (2 ^ 48) (omega arith), eq-eqb _ _ c.if-to-n.true))

pub returns-else-to-le281474976710655 : goal.returns-else-to-le281474976710655
unfolding landed
returns-else-to-le281474976710655 c =
    rw (← moved_wrapped c.args.self c.args.n c.args.distance _ c.requires.0 c.ranges.distance c.wrapping_add_signed-to.ensures)
    (elim c.else-to-le281474976710655.branch [
      | else-to-le281474976710655-via-then-to-le281474976710655+else-to-n w ↦ simp (ne_eqb _ _ w.if-to-n.false, and-false)
      | else-to-le281474976710655-via-else-to-le281474976710655 w ↦ simp (le-ltb c.wrapping_add_signed-to.result (2 ^ 48) (omega arith))
    ])
