-- Invariant: what is left to pick, written from place j on, makes the whole order (`Placing`).
use Rattle.placement.specs.laws.Digits.{picked_in}
use Rattle.placement.proofs.Picking.{Placing}
use Rattle.placement.proofs.orders.order_at.Given as goal

abbrev pub invariant-loop-j : goal.invariant-loop-j
invariant-loop-j l =
    let p = l.j-iterator.iter in
    record {
      can : (goal.iterator-loop-j).can_next l.j-iterator;
      ends : (goal.iterator-loop-j).is_finite l.j-iterator;
      placing : Placing l.n l.i l.order (picked_in p.count p.rest p.left) l.j-iterator.count;
    }
