-- Positions in one number, the one at place k in byte k: reading one, and taking one out. Assumes nothing.
use Rattle.std.proofs.Common.{ℕ, zero, suc, ◌+◌, ◌*◌, ◌/◌, ◌%◌, ◌^◌, ◌<◌, ◌≡◌, refl, List, [], ◌∷◌, ltb, length, get_or, ap, ◌∙◌, subst, div-one, mul-suc, mul_comm, mul_left_comm, mul-one, arith, pow_pos, pow-add, ltb-true, ltb-false}
use Rattle.std.proofs.Math.ListN.{get_or-eq_default}
use Rattle.std.proofs.Math.Nat.{zero-div, mod-one}
use Rattle.block.specs.Bytes.{decode, Bytes}
use Rattle.block.specs.laws.Booleans.{by_bool}
use Rattle.placement.specs.Orders.{positions_from, positions, without}
use Rattle.placement.specs.laws.Positions.{positions-length, positions-at, stood, without_at}

-- the position at place k
abbrev pub place_in : ℕ → ℕ → ℕ
place_in packed k = packed / 2 ^ (8 * k) % 256

-- the positions without that at place k: the places below it, and those behind it, one place lower
abbrev pub removed_from : ℕ → ℕ → ℕ
removed_from packed k = packed % 2 ^ (8 * k) + packed / 2 ^ (8 * k) / 256 * 2 ^ (8 * k)

-- a byte more
bits_suc : (k : ℕ) → 2 ^ (8 * suc k) ≡ 256 * 2 ^ (8 * k)
bits_suc k = ap (λ (n : ℕ). 2 ^ n) (mul-suc 8 k) ∙ pow-add 2 (8 * k) 8 ∙ mul_comm (2 ^ (8 * k)) 256

-- a number behind its lowest byte
module _ (x d m : ℕ) (h : x < 256) where
  behind : (x + 256 * d) / (256 * m) ≡ d / m
  behind = grind arith

  remains : 0 < m → (x + 256 * d) % (256 * m) ≡ x + 256 * (d % m)
  remains p = grind arith

pub place_is : (k : ℕ) (xs : List ℕ) → Bytes xs → place_in (decode xs) k ≡ get_or xs k 0
unfolding decode
place_is k [] b = ap (λ (n : ℕ). n % 256) (zero-div (2 ^ (8 * k)))
place_is zero (x ∷ xs) b = rw (div-one (x + 256 * decode xs)) (omega (arith, b 0))
place_is (suc k) (x ∷ xs) b =
    ap (λ (n : ℕ). (x + 256 * decode xs) / n % 256) (bits_suc k)
    ∙ ap (λ (n : ℕ). n % 256) (behind x (decode xs) (2 ^ (8 * k)) (b 0)) ∙ place_is k xs (λ i. b (suc i))

pub removed_is : (k : ℕ) (xs : List ℕ) → Bytes xs → removed_from (decode xs) k ≡ decode (without k xs)
unfolding decode without
removed_is k [] b = grind arith
removed_is zero (x ∷ xs) b =
    let v : ℕ = x + 256 * decode xs in
    rw (div-one v, mod-one v, mul-one (v / 256)) (omega (arith, b 0))
removed_is (suc k) (x ∷ xs) b =
    let d : ℕ = decode xs in
    let m : ℕ = 2 ^ (8 * k) in
    let r = remains x d m (b 0) (pow_pos (8 * k)) in
    let c : d / m / 256 * (256 * m) ≡ 256 * (d / m / 256 * m) = mul_left_comm (d / m / 256) 256 m in
    rw (bits_suc k, behind x d m (b 0), r, c) (omega (arith, removed_is k xs (λ i. b (suc i))))

pub without_bytes : (k : ℕ) (xs : List ℕ) → Bytes xs → Bytes (without k xs)
without_bytes k xs b q = rw (without_at k xs q) (b (stood k q))

-- a list of bytes, and zeros behind it
pub below_bytes : (xs : List ℕ) → ((k : ℕ) → k < length xs → get_or xs k 0 < 256) → Bytes xs
below_bytes xs b k =
    by_bool (ltb k (length xs))
    (λ t. b k (ltb-true k (length xs) t))
    (λ t. rw (get_or-eq_default xs 0 {n = k} (ltb-false k (length xs) t)) (omega arith))

-- 0 to 7
pub eight_bytes : Bytes (positions 8)
eight_bytes = below_bytes (positions 8) (λ k h. let l : k < 8 = subst (λ (n : ℕ). k < n) (positions-length 8 0) h in omega (arith, positions-at 8 0 k l))

pub eight_packed : 0x0706050403020100 ≡ decode (positions 8)
unfolding decode positions_from
eight_packed = refl
