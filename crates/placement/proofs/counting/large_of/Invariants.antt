-- Invariant: the count, with that of the places that are left to pick, is that of the whole order (`Counted`).
use Rattle.placement.specs.laws.Digits.{picked_in}
use Rattle.placement.proofs.Picking.{Counted}
use Rattle.placement.proofs.counting.large_of.Given as goal

abbrev pub invariant-loop-place : goal.invariant-loop-place
invariant-loop-place l =
    let p = l.place-iterator in
    record {
      can : (goal.iterator-loop-place).can_next p;
      ends : (goal.iterator-loop-place).is_finite p;
      counted : Counted l.s l.sizes l.i (picked_in p.count p.rest p.left) l.count l.h;
    }
