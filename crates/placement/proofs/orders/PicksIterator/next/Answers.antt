use Rattle.std.proofs.Common.{◌≡◌, ◌-◌, ◌%◌, suc, length, ap, arith}
use Rattle.placement.specs.laws.Digits.{picked_in, picked_end, turn}
use Rattle.placement.proofs.orders.PicksIterator.next.Goals as goal

pub nonzero_div-self : goal.nonzero_div-self
nonzero_div-self c =
    let p = c.args.self.now in
    (turn p.count p.rest p.left _ (omega arith) p.below c.factorial-f.ensures).divisor

pub nonzero_rem-self : goal.nonzero_rem-self
nonzero_rem-self c =
    let p = c.args.self.now in
    (turn p.count p.rest p.left _ (omega arith) p.below c.factorial-f.ensures).divisor

pub take-place-requires : goal.take-place-requires
take-place-requires c =
    let p = c.args.self.now in
    omega (arith, (turn p.count p.rest p.left _ (omega arith) p.below c.factorial-f.ensures).digit, p.few)

pub invariant_of-self : goal.invariant_of-self
invariant_of-self c =
    let p = c.args.self.now in
    record { few = omega (arith, p.few); below = (turn p.count p.rest p.left _ (omega arith) p.below c.factorial-f.ensures).below }

pub returns-clause-steps : goal.returns-clause-steps
returns-clause-steps c =
    let p = c.args.self.now in
    rw (c.take-place.ensures.taken, c.take-place.ensures.left) ((turn p.count p.rest p.left _ (omega arith) p.below c.factorial-f.ensures).is)

pub returns-clause-goes : goal.returns-clause-goes
returns-clause-goes c =
    let p = c.args.self.now in
    let is = (turn p.count p.rest p.left _ (omega arith) p.below c.factorial-f.ensures).is in
    let fewer : length (picked_in p.count p.rest p.left) ≡ suc (length (picked_in (p.count - 1) c.take-place.new.packed (p.left % c.factorial-f.result))) =
    rw c.take-place.ensures.left (ap length is) in
    record { on = λ f. (tt, f, omega arith); keeps = tt; rests = λ f. tt }

pub returns-then-self-eq0-clause-steps : goal.returns-then-self-eq0-clause-steps
returns-then-self-eq0-clause-steps c =
    let p = c.args.self.now in
    rw c.if-self-eq0.true (picked_end p.rest p.left, picked_end p.rest p.left)
