-- A signed number, and a record that is read, over plain values. Assumes nothing.
use Rattle.std.proofs.Common.{get_or, ℕ, ◌+◌, ◌-◌, ◌^◌, ◌≤◌, ◌<◌, ◌≡◌, refl, true, List, ltb, length, pos, negsuc, Some, Ok, Fits, w8, w16, w32, sym, ap, arith, w64, to_z, eq-eqb, ne_eqb, le-leb, lt-ltb, le-ltb}
use Rattle.block.specs.Bytes.{field}
use Rattle.block.specs.laws.Booleans.{by_bool}
use Rattle.block.specs.laws.Fields.{field_bound}
use Rattle.call_log.specs.Records.{known_kind, record_length, signed, call_at, good_value, formed_at, next_at}

-- below 2^63 it is itself
pub signed_low : (n : ℕ) → n < 2 ^ 63 → signed n ≡ pos n
unfolding signed
signed_low n l = rw (lt-ltb n (2 ^ 63) l) refl

-- from there on it is as far below -1 as n is below 2^64 - 1
pub signed_high : (n : ℕ) → 2 ^ 63 ≤ n → signed n ≡ negsuc (2 ^ 64 - 1 - n)
unfolding signed
signed_high n h = rw (le-ltb n (2 ^ 63) h) refl

-- it is what the 64 bits are as a signed number
pub signed_cast : (n : ℕ) → to_z w64 n ≡ signed n
unfolding signed
signed_cast n = by_bool (ltb n (2 ^ 63)) (λ t. rw t refl) (λ t. rw t (ap negsuc (omega arith)))

-- a number in 2 or 4 bytes fits as many bits
pub half_fits : (log : List ℕ) (at x : ℕ) → ((k : ℕ) → Fits w8 (get_or log k 0)) → x ≡ field log at 2 → Fits w16 x
half_fits log at x bytes e = record { fits = rw e (field_bound _ (λ k. (bytes k).fits) 2 at) }

pub word_fits : (log : List ℕ) (at x : ℕ) → ((k : ℕ) → Fits w8 (get_or log k 0)) → x ≡ field log at 4 → Fits w32 x
word_fits log at x bytes e = record { fits = rw e (field_bound _ (λ k. (bytes k).fits) 4 at) }

-- A record, over plain values.

module _ (log : List ℕ) (at len : ℕ) where
  -- it is not cut short
  pub not_cut : len ≡ field log at 2 → 4 ≤ len → at + len ≤ length log → next_at log at ≡ Some (formed_at log at len)
  unfolding next_at
  not_cut is four inside =
      let left : ℕ = length log - at in
      simp (ne_eqb left 0 (λ e. omega arith), le-leb 4 left (omega arith), sym is, le-leb 4 len four, le-leb len left (omega arith))

  -- its kind, its length and its fill value are good
  pub well_formed_lem :
      (kind : ℕ) → field log (at + 2) 2 ≡ kind → known_kind kind ≡ true → len ≡ record_length kind → good_value log kind (at + 4) ≡ true
      → formed_at log at len ≡ Ok (call_at log kind (at + 4), at + len)
  unfolding formed_at
  well_formed_lem kind is known e g = rw (is, known, eq-eqb len (record_length kind) e, g) refl
