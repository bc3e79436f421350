-- `block::superblock::open`: each test that fails rules out a field of `Superblock`; where all pass, the exponent is the one read. Assumes nothing.
use Rattle.std.proofs.Common.{sym, ap, ◌∙◌, arith, rules, Some, eq-eqb}
use Rattle.block.specs.laws.Superblock.{superblock_good_lem, opened_good, opened_bad}
use Rattle.block.proofs.superblock.open.Goals as goal

-- a length out of range
pub returns-then-len-lt64 : goal.returns-then-len-lt64
returns-then-len-lt64 c = sym (opened_bad _ (λ p. omega (arith, c.then-len-lt64.either)))

-- another extent, kind or length
pub returns-then-ne : goal.returns-then-ne
returns-then-ne c =
    sym
    (opened_bad _
    (λ p.
    let e = rw (c.read.ensures, c.read-2.ensures, c.read-3.ensures, eq-eqb _ _ p.own_length, eq-eqb _ _ p.own_kind, eq-eqb _ _ p.has_length) at c.if-ne.ensures in
    cc e))

-- a slot exponent out of range
pub returns-then-s-lt6 : goal.returns-then-s-lt6
returns-then-s-lt6 c = sym (opened_bad _ (λ p. omega (arith, c.then-s-lt6.either)))

-- a good superblock
pub returns : goal.returns
returns c = ap Some c.slot_exponent-s.ensures ∙ sym (opened_good _ (superblock_good_lem _ (search rules)))
