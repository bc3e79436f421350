-- The report's ways out, its sizes one by one, and its fractions. Assumes nothing.
use Rattle.std.proofs.Common.{ℕ, zero, suc, ◌-◌, ◌≤◌, ◌<◌, ◌≡◌, true, false, List, [], ◌∷◌, length, get_or, leb, arith, leb-true, leb-false, le-leb}
use Rattle.std.proofs.lemmas.Bool.{lt-leb}
use Rattle.block.specs.laws.Booleans.{by_bool}
use Rattle.overhead.specs.declared.answer.Fraction.{Fraction}
use Rattle.overhead.specs.Overhead.{good_sizes, sums, fraction, report_of, refused, report, Sums}
use Rattle.overhead.specs.Claims.{BadSize, no_bytes, too_large}
use Rattle.overhead.specs.laws.Totals.{good_head_lem, good_tail}

-- Sizes.

-- each is in range
pub size_good : (sizes : List ℕ) → good_sizes sizes ≡ true → (k : ℕ) → k < length sizes → (1 ≤ get_or sizes k 0) × (get_or sizes k 0 ≤ 65536)
size_good [] g k h = absurd (omega arith)
size_good (size ∷ sizes) g zero h = good_head_lem size sizes g
size_good (size ∷ sizes) g (suc k) h = size_good sizes (good_tail size sizes g) k (omega arith)

-- a bad one behind the first
bad_behind : (size : ℕ) (sizes : List ℕ) → BadSize sizes → BadSize (size ∷ sizes)
bad_behind size sizes (no_bytes k h e) = no_bytes (suc k) (omega arith) e
bad_behind size sizes (too_large k h l) = too_large (suc k) (omega arith) l

-- where not all are good, one is out of range
pub size_bad : (sizes : List ℕ) → good_sizes sizes ≡ false → BadSize sizes
unfolding good_sizes
size_bad [] g = cc
size_bad (size ∷ sizes) g =
    by_bool (leb 1 size)
    (λ s.
    by_bool (leb size 65536)
    (λ t. bad_behind size sizes (size_bad sizes (rw (s, t) at g)))
    (λ t. too_large 0 (omega arith) (leb-false size 65536 t)))
    (λ s. no_bytes 0 (omega arith) (omega (arith, leb-false 1 size s)))

-- The answer's three ways out.

pub report_long : (sizes : List ℕ) → 65536 < length sizes → report sizes ≡ refused 28
unfolding report
report_long sizes h = rw (lt-leb (length sizes) 65536 h)

pub report_bad : (sizes : List ℕ) → length sizes ≤ 65536 → good_sizes sizes ≡ false → report sizes ≡ refused 29
unfolding report
report_bad sizes h g = rw (le-leb (length sizes) 65536 h, g)

pub report_good : (sizes : List ℕ) → length sizes ≤ 65536 → good_sizes sizes ≡ true → report sizes ≡ report_of (sums sizes)
unfolding report
report_good sizes h g = rw (le-leb (length sizes) 65536 h, g)

pub data Verdict (sizes : List ℕ) : Type 0 where
  long : 65536 < length sizes → report sizes ≡ refused 28 → Verdict sizes
  bad : length sizes ≤ 65536 → good_sizes sizes ≡ false → report sizes ≡ refused 29 → Verdict sizes
  good : length sizes ≤ 65536 → good_sizes sizes ≡ true → report sizes ≡ report_of (sums sizes) → Verdict sizes

pub verdict : (sizes : List ℕ) → Verdict sizes
verdict sizes =
    by_bool (leb (length sizes) 65536)
    (λ t.
    let l = leb-true (length sizes) 65536 t in
    by_bool (good_sizes sizes) (λ g. good l g (report_good sizes l g)) (λ g. bad l g (report_bad sizes l g)))
    (λ t. let l = leb-false (length sizes) 65536 t in long l (report_long sizes l))

-- Fractions.

pub fraction_none : (bytes raw : ℕ) → raw ≡ 0 → fraction bytes raw ≡ record { extra = 0; over = 1 }
unfolding fraction
fraction_none bytes raw e = rw (le-leb raw 0 (omega arith))

pub fraction_some : (bytes raw : ℕ) → 0 < raw → fraction bytes raw ≡ record { extra = bytes - raw; over = raw }
unfolding fraction
fraction_some bytes raw h = rw (lt-leb raw 0 h)

-- the report of an accepted list, part by part
pub report-given :
    (sizes : List ℕ) (s : Sums) (headers padding : Fraction) → length sizes ≤ 65536 → good_sizes sizes ≡ true → s ≡ sums sizes
    → headers ≡ fraction s.headed s.raw → padding ≡ fraction s.padded s.raw
    → record { row = 0; raw = s.raw; headed = s.headed; padded = s.padded; end = s.end; headers = headers; padding = padding } ≡ report sizes
unfolding report_of
report-given sizes s headers padding l g e h p = rw (report_good sizes l g, ← e, h, p)
