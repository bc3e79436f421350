-- The definitions over the sizes in the words of `std`, and their bounds. Assumes nothing.
use Rattle.std.proofs.Common.{◌≡◌, ℕ, zero, suc, ◌+◌, ◌-◌, ◌*◌, ◌/◌, ◌^◌, ◌≤◌, ◌<◌, max, true, ◌&&◌, List, [], ◌∷◌, refl, length, get_or, drop, sum_by, sym, ap, ◌∙◌, pow-suc, add-one, drop-cons, div-mul-le_self, arith, drop_of_length-le}
use Rattle.std.specs.Int.{IsPowerOfTwo}
use Rattle.std.specs.List.{list_all}
use Rattle.std.proofs.lemmas.List.Recursion.{is_sum_by}
use Rattle.overhead.specs.Overhead.{good_size, good_sizes, padded, block_start, block_end, end_from, headed, total, Sums, sums}
use Rattle.overhead.specs.laws.Padding.{half_at_most, lowest_power, one_power, padded_most, padded_some}
use Rattle.overhead.specs.laws.Totals.{total_most, headed-total}
use Rattle.overhead.specs.laws.Rows.{size_good}

-- a power of two whose half is under another is no more than that
at_most : {p : ℕ} (m n : ℕ) → p ≡ 2 ^ m → 16 ≤ p → p / 2 < 2 ^ n → p ≤ 2 ^ n
at_most zero n is some half = let one : 2 ^ 0 ≡ 1 = refl in absurd (omega arith)
at_most (suc m) n is some half = let twice = pow-suc 2 m in let below : 2 ^ m < 2 ^ n = omega (arith, rw pow-suc at is) in omega (arith, half_at_most m n below)

-- the next power of two from 16 on is the padded size
pub next_power : (size p : ℕ) → IsPowerOfTwo p → max size 16 ≤ p → p / 2 < max 1 (max size 16) → p ≡ padded size
next_power size p power covers next =
    one_power size p (padded size) (record { power = power; least = omega arith; covers = omega arith; lowest = lowest }) (lowest_power size)
  where
    lowest : (n : ℕ) → 16 ≤ 2 ^ n → size ≤ 2 ^ n → p ≤ 2 ^ n
    lowest n a b = at_most power.0 n power.1 (omega arith) (omega arith)

-- a block starts no further than p - 1 bytes behind the previous end
pub start_most : (p from : ℕ) → block_start p from ≤ from + (p - 1)
start_most p from = div-mul-le_self (from + (p - 1)) p

pub good_all : (sizes : List ℕ) → good_sizes sizes ≡ list_all good_size sizes
unfolding good_sizes
good_all [] = refl
good_all (size ∷ sizes) = ap (λ b. good_size size && b) (good_all sizes)

pub total_is : (f : ℕ → ℕ) (sizes : List ℕ) → total f sizes ≡ sum_by f sizes
unfolding total
total_is f = is_sum_by (total f) f refl (λ size sizes. refl)

-- a sum of at most c for each size
pub sum_most : (f : ℕ → ℕ) (c : ℕ) → ((size : ℕ) → size ≤ 65536 → f size ≤ c) → (sizes : List ℕ) → good_sizes sizes ≡ true → sum_by f sizes ≤ length sizes * c
sum_most f c each sizes good = rw (← total_is f sizes) (total_most f c each sizes good)

-- Blocks placed one behind the other.

-- where the loop stands: bytes and end, with those of the sizes from i on, are those of all; gaps are no more than blocks
pub record Placing (sizes : List ℕ) (bytes end i : ℕ) : Type 0 where
  pub bytes_most : bytes ≤ 65536 * i
  pub end_most : end ≤ 2 * bytes
  pub bytes_is : bytes + total padded (drop i sizes) ≡ total padded sizes
  pub end_is : end_from end (drop i sizes) ≡ end_from 0 sizes

pub placing_begins : (sizes : List ℕ) → Placing sizes 0 0 0
placing_begins sizes = record { bytes_most = omega arith; end_most = omega arith; bytes_is = omega arith; end_is = refl }

pub placing_goes_on : (sizes : List ℕ) {bytes end i : ℕ} → Placing sizes bytes end i → i < length sizes → good_sizes sizes ≡ true
    → Placing sizes (bytes + padded (get_or sizes i 0)) (block_end (padded (get_or sizes i 0)) end) (i + 1)
unfolding total end_from
placing_goes_on sizes {bytes} {end} {i} now h good =
    let size : ℕ = get_or sizes i 0 in
    let left : drop i sizes ≡ size ∷ drop (i + 1) sizes = rw (add-one i) (drop-cons sizes i 0 h) in
    let most = padded_most size (size_good sizes good i h).1 in
    let total_is = rw left at now.bytes_is in
    let end_is = rw left at now.end_is in
    record {
      bytes_most = omega (arith, now.bytes_most, most);
      end_most = omega (arith, now.end_most, start_most (padded size) end, padded_some size);
      bytes_is = omega (arith, total_is);
      end_is = end_is;
    }

pub placing_ends : (sizes : List ℕ) {bytes end i : ℕ} → Placing sizes bytes end i → length sizes ≤ i
    → (bytes ≡ total padded sizes) × (end ≡ end_from 0 sizes)
unfolding total end_from
placing_ends sizes {bytes} {end} {i} now h =
    let none = drop_of_length-le sizes {i = i} h in
    let total_is = rw none at now.bytes_is in
    let end_is = rw none at now.end_is in
    (omega (arith, total_is), end_is)

-- the sums, one by one
pub summed : (sizes : List ℕ) (raw blocks end : ℕ) → raw ≡ sum_by (λ size. size) sizes → blocks ≡ total padded sizes → end ≡ end_from 0 sizes
    → ◌≡◌ {A = Sums} (record { raw = raw; headed = raw + 16 * length sizes; padded = blocks; end = end }) (sums sizes)
unfolding sums
summed sizes raw blocks end r b e =
    let raw_is : raw ≡ total (λ size. size) sizes = r ∙ sym (total_is (λ size. size) sizes) in
    let headed_is : raw + 16 * length sizes ≡ total headed sizes = omega (arith, raw_is, headed-total sizes) in
    λ k. record { raw = raw_is k; headed = headed_is k; padded = b k; end = e k }
