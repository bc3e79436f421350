-- `descriptors::checking::good_fields`. Invariant: what the fields from k on, behind `from`, say is what all fields say. Assumes nothing.
use Rattle.std.proofs.Common.{◌≡◌, ◌-◌, ◌/◌}
use Rattle.descriptors.specs.Descriptors.{good_fields_in}
use Rattle.descriptors.proofs.checking.good_fields.Given as goal

abbrev pub invariant-loop-k : goal.invariant-loop-k
invariant-loop-k l =
    let n = (l.d.length - 12) / 6 in
    good_fields_in (n - l.k) l.list l.p l.from l.k ≡ good_fields_in n l.list l.p 0 0
