-- The claims on the report. Assumes nothing.
use Rattle.std.proofs.Common.{ℕ, ◌+◌, ◌≤◌, ◌<◌, ◌≡◌, refl, true, List, [], ◌∷◌, length, sym, ap, subst, arith}
use Rattle.overhead.specs.declared.answer.Fraction.{Fraction}
use Rattle.overhead.specs.Overhead.{good_sizes, padded, headed, total, sums, fraction, report_of, refused, report, Report}
use Rattle.overhead.specs.Claims.{BadSize, no_bytes, too_large, Zeros, Refuses, RefusesInOrder, Summed, SumsExactly, Fits, NoneOverflows, Overheads, ExtraOverRaw}
use Rattle.overhead.specs.laws.Totals.{sums_fit, headed-total, raw_padded, raw_some, sums-ordered, all_placed, placed_once}
use Rattle.overhead.specs.laws.Rows.{size_good, size_bad, Verdict, long, bad, good, verdict, fraction_some}

-- Rows 28 and 29.

good_not_bad : (sizes : List ℕ) → good_sizes sizes ≡ true → BadSize sizes → ⊥
good_not_bad sizes g (no_bytes k h e) = omega (arith, (size_good sizes g k h).0)
good_not_bad sizes g (too_large k h l) = omega (arith, (size_good sizes g k h).1)

refusal_zeros : (n : ℕ) → Zeros (refused n)
refusal_zeros n = record { raw = refl; headed = refl; padded = refl; end = refl; headers = (refl, refl); padding = (refl, refl) }

pub refuses_in_order : RefusesInOrder
unfolding RefusesInOrder report_of
refuses_in_order sizes = by (verdict sizes)
  where
    by : Verdict sizes → Refuses sizes
    by (long l p) =
        let r : (report sizes).row ≡ 28 = ap (λ (q : Report). q.row) p in
        record {
          too_long = ((λ e. l), λ h. r);
          bad_size = ((λ e. absurd (omega (arith, r, e))), λ q. absurd (omega (arith, l, q.0)));
          accepted = ((λ e. absurd (omega (arith, r, e))), λ q. absurd (omega (arith, l, q.0)));
          zeros = λ n. subst Zeros (sym p) (refusal_zeros _);
        }
    by (bad l g p) =
        let r : (report sizes).row ≡ 29 = ap (λ (q : Report). q.row) p in
        record {
          too_long = ((λ e. absurd (omega (arith, r, e))), λ h. absurd (omega (arith, l, h)));
          bad_size = ((λ e. (l, size_bad sizes g)), λ q. r);
          accepted = ((λ e. absurd (omega (arith, r, e))), λ q. absurd (q.1 (size_bad sizes g)));
          zeros = λ n. subst Zeros (sym p) (refusal_zeros _);
        }
    by (good l g p) =
        let r : (report sizes).row ≡ 0 = ap (λ (q : Report). q.row) p in
        record {
          too_long = ((λ e. absurd (omega (arith, r, e))), λ h. absurd (omega (arith, l, h)));
          bad_size = ((λ e. absurd (omega (arith, r, e))), λ q. absurd (good_not_bad sizes g q.1));
          accepted = ((λ e. (l, good_not_bad sizes g)), λ q. r);
          zeros = λ n. absurd (n r);
        }

-- What is said of every accepted list is shown of its sums.
accepted_by :
    (P : Report → Type 0) (sizes : List ℕ) → (length sizes ≤ 65536 → good_sizes sizes ≡ true → P (report_of (sums sizes))) → (report sizes).row ≡ 0
    → P (report sizes)
accepted_by P sizes of e = by (verdict sizes)
  where
    by : Verdict sizes → P (report sizes)
    by (long l p) = absurd (omega (arith, e, ap (λ (q : Report). q.row) p))
    by (bad l g p) = absurd (omega (arith, e, ap (λ (q : Report). q.row) p))
    by (good l g p) = subst P (sym p) (of l g)

pub sums_exactly : SumsExactly
unfolding SumsExactly report_of sums
sums_exactly sizes =
    accepted_by (Summed sizes) sizes
    (λ l g. record { raw_is = refl; headed_is = headed-total sizes; placed = all_placed sizes 0; only = placed_once 0 sizes; gaps = (sums-ordered sizes (sums sizes) refl).2 })

pub none_overflows : NoneOverflows
unfolding NoneOverflows
none_overflows sizes = accepted_by Fits sizes (sums_fit sizes)

-- Fractions: the extra bytes with the raw ones are all bytes.

extra_raw : (bytes raw : ℕ) → raw ≤ bytes → 0 < raw → (fraction bytes raw).extra + raw ≡ bytes
extra_raw bytes raw l h = omega (arith, ap (λ (f : Fraction). f.extra) (fraction_some bytes raw h))

over_raw : (bytes raw : ℕ) → 0 < raw → (fraction bytes raw).over ≡ raw
over_raw bytes raw h = ap (λ (f : Fraction). f.over) (fraction_some bytes raw h)

overheads : (sizes : List ℕ) → good_sizes sizes ≡ true → Overheads sizes (report_of (sums sizes))
unfolding report_of sums total fraction
overheads [] g =
    record {
      headers = refl;
      padding = refl;
      over_raw = λ n. absurd (n refl);
      empty = λ e. (refl, refl);
      over_some = (omega arith, omega arith);
    }
overheads (size ∷ sizes) g =
    let all : List ℕ = size ∷ sizes in
    let raw : ℕ = total (λ size. size) all in
    let cons : all ≡ [] → ⊥ = λ e. let z : ◌≡◌ {A = ℕ} (length all) 0 = ap length e in absurd (omega arith) in
    let some : 0 < raw = raw_some all g cons in
    let h = over_raw (total headed all) raw some in
    let p = over_raw (total padded all) raw some in
    record {
      headers = extra_raw (total headed all) raw (omega (arith, headed-total all)) some;
      padding = extra_raw (total padded all) raw (raw_padded all) some;
      over_raw = λ n. (h, p);
      empty = λ e. absurd (cons e);
      over_some = (omega (arith, h), omega (arith, p));
    }

pub extra_over_raw : ExtraOverRaw
unfolding ExtraOverRaw
extra_over_raw sizes = accepted_by (Overheads sizes) sizes (λ l g. overheads sizes g)
