-- `store::entries::clear_entry`: the tag leads through an entry, or it does not. Assumes nothing.
use mathlib.Core.Path.{◌≡◌, sym}
use mathlib.Core.Bool.{false}
use Prim.Native.Nat.{◌<◌, ◌≤◌, ◌^◌}
use native.Mathlib.Omega.{arith}
use lib.ListN.{length}
use borrow.Author.Tests.{not-true, not-false}
use Rattle.frame.specs.Frame.{frame_start}
use Rattle.frame.specs.laws.Pointers.{good_large, reach-large}
use Rattle.store.specs.laws.Entries.{cleared_small, cleared-large}
use Rattle.store.proofs.entries.clear_entry.Goals as goal

pub entry_index-entry-requires : goal.entry_index-entry-requires
entry_index-entry-requires c =
    let large : c.args.p.flag ≡ false = not-true _ c.if-not-p.true in
    let exponent : let a = c.args in (a.s < a.p.tag) × (a.p.tag ≤ 31) = good_large c.args.s c.args.p large c.requires.1 in
    let e = exponent in
    let f : frame_start c.args.p.tag c.args.p.address < 2 ^ 30 = rw (reach-large c.args.s c.args.p large) at c.requires.2 in
    (e.0, omega (arith, e.1), f)

-- it is cleared
pub returns-then-not-p : goal.returns-then-not-p
returns-then-not-p c =
    let large : c.args.p.flag ≡ false = not-true _ c.if-not-p.true in
    rw c.entry_index-entry.ensures (sym (cleared-large c.args.s c.args.p _ large))

-- there is none
pub returns-else-not-p : goal.returns-else-not-p
returns-else-not-p c = sym (cleared_small _ _ _ (not-false _ c.if-not-p.false))

pub overflow_cast-p : goal.overflow_cast-p
overflow_cast-p c =
    let large : c.args.p.flag ≡ false = not-true _ c.if-not-p.true in
    let exponent : let a = c.args in (a.s < a.p.tag) × (a.p.tag ≤ 31) = good_large c.args.s c.args.p large c.requires.1 in
    omega (arith, exponent.1)

pub offset_bounds-table-entry : goal.offset_bounds-table-entry
offset_bounds-table-entry c =
    let large : c.args.p.flag ≡ false = not-true _ c.if-not-p.true in
    let indexed : c.entry_index-entry.result < length c.args.table.now = rw c.entry_index-entry.ensures (c.requires.3 large) in
    omega (arith, indexed)

pub bounds-table-entry : goal.bounds-table-entry
bounds-table-entry c =
    let large : c.args.p.flag ≡ false = not-true _ c.if-not-p.true in
    let indexed : c.entry_index-entry.result < length c.args.table.now = rw c.entry_index-entry.ensures (c.requires.3 large) in
    indexed
