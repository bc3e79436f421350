-- The answer that a result of the report stands for. Assumes nothing.
use Rattle.std.proofs.Common.{◌≡◌, refl, Result, Ok, Err, ap, arith}
use Rattle.overhead.specs.declared.answer.Report.{Report as Given}
use Rattle.overhead.specs.declared.answer.Refusal.{Refusal}
use Rattle.overhead.specs.declared.answer.Refusal.TheVariants.{TooMany, BadSize}
use Rattle.overhead.specs.Overhead.{Report, answered}

-- two results that give one answer are one
pub answered_once : (a b : Result Given Refusal) → answered a ≡ answered b → a ≡ b
answered_once (Ok p) (Ok q) e =
    let raw : p.raw ≡ q.raw = ap (λ (r : Report). r.raw) e in
    let headed : p.headed ≡ q.headed = ap (λ (r : Report). r.headed) e in
    let padded : p.padded ≡ q.padded = ap (λ (r : Report). r.padded) e in
    let end : p.end ≡ q.end = ap (λ (r : Report). r.end) e in
    let headers : p.headers ≡ q.headers = ap (λ (r : Report). r.headers) e in
    let padding : p.padding ≡ q.padding = ap (λ (r : Report). r.padding) e in
    λ k. Ok (record { raw = raw k; headed = headed k; padded = padded k; end = end k; headers = headers k; padding = padding k })
answered_once (Ok p) (Err TooMany) e = absurd (omega (arith, ap (λ (r : Report). r.row) e))
answered_once (Ok p) (Err BadSize) e = absurd (omega (arith, ap (λ (r : Report). r.row) e))
answered_once (Err TooMany) (Ok q) e = absurd (omega (arith, ap (λ (r : Report). r.row) e))
answered_once (Err BadSize) (Ok q) e = absurd (omega (arith, ap (λ (r : Report). r.row) e))
answered_once (Err TooMany) (Err TooMany) e = refl
answered_once (Err BadSize) (Err BadSize) e = refl
answered_once (Err TooMany) (Err BadSize) e = absurd (omega (arith, ap (λ (r : Report). r.row) e))
answered_once (Err BadSize) (Err TooMany) e = absurd (omega (arith, ap (λ (r : Report). r.row) e))
