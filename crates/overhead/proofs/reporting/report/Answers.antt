-- The definition's tests in their order; no overhead is negative (`sums-ordered`).
use Rattle.std.proofs.Common.{◌≡◌, sum_by, sym, ◌∙◌, arith, rules}
use Rattle.overhead.specs.laws.Totals.{sums-ordered}
use Rattle.overhead.specs.laws.Rows.{report_long, report_bad, report-given}
use Rattle.overhead.proofs.Turns.{sum_most, summed}
use Rattle.overhead.proofs.reporting.report.Goals as goal

pub returns-then-sizes-gt65536 : goal.returns-then-sizes-gt65536
returns-then-sizes-gt65536 c = sym (report_long _ c.if-sizes-gt65536.true)

pub returns-then-not-good_sizes : goal.returns-then-not-good_sizes
returns-then-not-good_sizes c = sym (report_bad _ c.if-sizes-gt65536.false (sym c.good_sizes.ensures ∙ c.if-not-good_sizes.true))

pub overflow_add-headed : goal.overflow_add-headed
overflow_add-headed c =
    let raw : c.sum-raw.result ≡ sum_by (λ size. size) c.args.sizes.now = search rules in
    let most = sum_most (λ size. size) 65536 (λ size h. h) c.args.sizes.now (sym c.good_sizes.ensures ∙ c.if-not-good_sizes.false) in
    omega (arith, raw, most)

pub fraction-requires-2 : goal.fraction-requires-2
fraction-requires-2 c =
    (sums-ordered _ _ (summed c.args.sizes.now c.sum-raw.result c.placed-blocks.result.0 c.placed-blocks.result.1
    (search rules) c.placed-blocks.ensures.bytes c.placed-blocks.ensures.end)).1

pub returns : goal.returns
returns c =
    report-given _ _ _ _ c.if-sizes-gt65536.false (sym c.good_sizes.ensures ∙ c.if-not-good_sizes.false)
    (summed c.args.sizes.now c.sum-raw.result c.placed-blocks.result.0 c.placed-blocks.result.1
    (search rules) c.placed-blocks.ensures.bytes c.placed-blocks.ensures.end)
    c.fraction.ensures
    c.fraction-2.ensures
