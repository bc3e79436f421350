-- Sums over the sizes: their bounds, and padded blocks placed one after the other. Assumes nothing.
use Rattle.std.proofs.Common.{ℕ, suc, ◌+◌, ◌*◌, ◌≤◌, ◌<◌, ◌≡◌, refl, true, List, [], ◌∷◌, length, leb, sym, ap, ◌∙◌, subst, add-zero, mul_assoc, suc-mul, suc-add, add-suc, arith, leb-true}
use Rattle.block.specs.laws.Booleans.{and_left, and_right}
use Rattle.overhead.specs.Overhead.{good_size, good_sizes, padded, block_start, block_end, end_from, headed, total, sums, report_of, Sums}
use Rattle.overhead.specs.Claims.{LowestMultiple, Placed, none, next, Fits}
use Rattle.overhead.specs.laws.Padding.{lowest_power, one_power, padded_most, padded_some, padded_divides, lowest_multiple, one_multiple}

-- Good sizes, taken apart.

pub good_head_lem : (size : ℕ) (sizes : List ℕ) → good_sizes (size ∷ sizes) ≡ true → (1 ≤ size) × (size ≤ 65536)
unfolding good_sizes
good_head_lem size sizes e =
    let g = and_left (good_size size) (good_sizes sizes) e in
    (leb-true 1 size (and_left (leb 1 size) (leb size 65536) g), leb-true size 65536 (and_right (leb 1 size) (leb size 65536) g))

pub good_tail : (size : ℕ) (sizes : List ℕ) → good_sizes (size ∷ sizes) ≡ true → good_sizes sizes ≡ true
unfolding good_sizes
good_tail size sizes e = and_right (good_size size) (good_sizes sizes) e

-- Bounds.

pub total_most :
    (f : ℕ → ℕ) (c : ℕ) → ((size : ℕ) → size ≤ 65536 → f size ≤ c) → (sizes : List ℕ) → good_sizes sizes ≡ true
    → total f sizes ≤ length sizes * c
unfolding total
total_most f c h [] g = omega arith
total_most f c h (size ∷ sizes) g =
    let a = h size (good_head_lem size sizes g).1 in
    let b = total_most f c h sizes (good_tail size sizes g) in
    rw (suc-mul (length sizes) c) (omega arith)

total_order : (f k : ℕ → ℕ) → ((size : ℕ) → f size ≤ k size) → (sizes : List ℕ) → total f sizes ≤ total k sizes
unfolding total
total_order f k h [] = omega arith
total_order f k h (size ∷ sizes) = omega (arith, h size, total_order f k h sizes)

-- from a multiple of 65,536 on each block ends within the next 65,536 bytes, of which its own size is a divisor
end_most :
    (sizes : List ℕ) (i from : ℕ) → good_sizes sizes ≡ true → from ≤ i * 65536 → end_from from sizes ≤ (i + length sizes) * 65536
unfolding end_from
end_most [] i from g h = rw (add-zero i) h
end_most (size ∷ sizes) i from g h =
    let (a, b) = good_head_lem size sizes g in
    let (d, e) = padded_divides size b in
    let m : i * 65536 ≡ i * d * padded size = ap (λ (x : ℕ). i * x) e ∙ sym (mul_assoc i d (padded size)) in
    let r = (lowest_multiple (padded size) from (padded_some size)).lowest (i * d) (omega arith) in
    let p = padded_most size b in
    let t = end_most sizes (suc i) (block_end (padded size) from) (good_tail size sizes g) (rw (suc-mul i 65536) (omega arith)) in
    rw (add-suc i (length sizes), ← suc-add i (length sizes)) t

-- the end is not before all padded bytes
pub end_least : (sizes : List ℕ) (from : ℕ) → from + total padded sizes ≤ end_from from sizes
unfolding end_from total
end_least [] from = omega arith
end_least (size ∷ sizes) from =
    omega (arith, (lowest_multiple (padded size) from (padded_some size)).after, end_least sizes (block_end (padded size) from))

-- the sums over a list that is taken fit
pub sums_fit : (sizes : List ℕ) → length sizes ≤ 65536 → good_sizes sizes ≡ true → Fits (report_of (sums sizes))
unfolding report_of sums
sums_fit sizes l g =
    record {
      raw = omega (arith, total_most (λ size. size) 65536 (λ size h. h) sizes g);
      headed = omega (arith, total_most headed 65552 (λ size h. omega arith) sizes g);
      padded = omega (arith, total_most padded 65536 padded_most sizes g);
      end = omega (arith, end_most sizes 0 0 g (omega arith));
    }

-- Raw bytes.

pub headed-total : (sizes : List ℕ) → total headed sizes ≡ total (λ size. size) sizes + 16 * length sizes
unfolding total
headed-total [] = refl
headed-total (size ∷ sizes) = omega (arith, headed-total sizes)

pub raw_padded : (sizes : List ℕ) → total (λ size. size) sizes ≤ total padded sizes
raw_padded sizes = total_order (λ size. size) padded (λ size. (lowest_power size).covers) sizes

-- there are none only of an empty list
pub raw_some : (sizes : List ℕ) → good_sizes sizes ≡ true → (sizes ≡ [] → ⊥) → 0 < total (λ size. size) sizes
unfolding total
raw_some [] g n = absurd (n refl)
raw_some (size ∷ sizes) g n = omega (arith, (good_head_lem size sizes g).0)

-- the sums by size: neither overhead is negative, and gaps only add to the end
pub sums-ordered : (sizes : List ℕ) (s : Sums) → s ≡ sums sizes → (s.raw ≤ s.headed) × (s.raw ≤ s.padded) × (s.padded ≤ s.end)
unfolding sums
sums-ordered sizes s e =
    let raw = ap (λ (t : Sums). t.raw) e in
    let with-headers = ap (λ (t : Sums). t.headed) e in
    let blocks = ap (λ (t : Sums). t.padded) e in
    let end = ap (λ (t : Sums). t.end) e in
    (omega (arith, headed-total sizes), omega (arith, raw_padded sizes), omega (arith, end_least sizes 0))

-- Padded blocks.

pub all_placed : (sizes : List ℕ) (from : ℕ) → Placed from sizes (total padded sizes) (end_from from sizes)
unfolding total end_from
all_placed [] from = none from
all_placed (size ∷ sizes) from =
    next from size sizes (padded size) (block_start (padded size) from) (total padded sizes) (end_from (block_end (padded size) from) sizes)
    (lowest_power size)
    (lowest_multiple (padded size) from (padded_some size))
    (all_placed sizes (block_end (padded size) from))

-- in one way alone
pub placed_once :
    (from : ℕ) (sizes : List ℕ) (bytes end : ℕ) → Placed from sizes bytes end → (bytes ≡ total padded sizes) × (end ≡ end_from from sizes)
unfolding total end_from
placed_once from [] bytes end (none _) = (refl, refl)
placed_once from (size ∷ sizes) bytes end (next _ _ _ p at rest _ power multiple placed) =
    let e : p ≡ padded size = one_power size p (padded size) power (lowest_power size) in
    let s : at ≡ block_start (padded size) from =
    one_multiple (padded size) from at (block_start (padded size) from) (subst (λ (q : ℕ). LowestMultiple q from at) e multiple)
    (lowest_multiple (padded size) from (padded_some size)) in
    let (b, d) = placed_once (at + p) sizes rest end placed in
    (omega (arith, e, b), d ∙ ap (λ (x : ℕ). end_from x sizes) (omega (arith, s, e)))
