use Rattle.std.proofs.Common.{◌≡◌, ◌≤◌, length, inl, arith, rules}
use Rattle.placement.specs.Orders.{order_at}
use Rattle.placement.specs.laws.Arrangements.{only_orders}
use Rattle.placement.specs.laws.Digits.{picked_in}
use Rattle.placement.proofs.Picking.{placing_begins}
use Rattle.placement.proofs.orders.order_at.Goals as goal

pub loop-j-init : goal.loop-j-init
loop-j-init c =
    let p = c.into_iter-j-iterator.result in
    let is : picked_in p.iter.count p.iter.rest p.iter.left ≡ order_at c.args.n c.args.i = search rules in
    let first : p.count ≡ 0 = search rules in
    let few : length (picked_in p.iter.count p.iter.rest p.iter.left) ≤ 8 = rw is (omega (arith, (only_orders _ _ c.requires.1).length_is)) in
    record { can = (tt, tt, inl (omega arith)); ends = tt; placing = rw first (placing_begins _ _ _ c.requires.0 c.requires.1 is) }
