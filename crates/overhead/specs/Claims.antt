-- What the overhead report promises: document 02, W14. Assumes nothing.
use Rattle.std.specs.Prelude.{ℕ, ◌+◌, ◌*◌, ◌^◌, ◌≤◌, ◌<◌, ◌≡◌, ◌↔◌, List, [], ◌∷◌, length, get_or}
use Rattle.overhead.specs.Overhead.{total, report, Report}

-- The rows.

-- what row 29 refuses
pub data BadSize (sizes : List ℕ) : Type 0 where
  no_bytes : (k : ℕ) → k < length sizes → get_or sizes k 0 ≡ 0 → BadSize sizes
  too_large : (k : ℕ) → k < length sizes → 65536 < get_or sizes k 0 → BadSize sizes

-- every value is 0
pub record Zeros (answer : Report) : Type 0 where
  pub raw : answer.raw ≡ 0
  pub headed : answer.headed ≡ 0
  pub padded : answer.padded ≡ 0
  pub end : answer.end ≡ 0
  pub headers : (answer.headers.extra ≡ 0) × (answer.headers.over ≡ 0)
  pub padding : (answer.padding.extra ≡ 0) × (answer.padding.over ≡ 0)

-- 28 comes exactly for a list that is too long, 29 exactly for another one with a size out of range, and no other number; a refusal gives zeros
pub record Refuses (sizes : List ℕ) : Type 0 where
  pub too_long : ((report sizes).row ≡ 28) ↔ (65536 < length sizes)
  pub bad_size : ((report sizes).row ≡ 29) ↔ ((length sizes ≤ 65536) × BadSize sizes)
  pub accepted : ((report sizes).row ≡ 0) ↔ ((length sizes ≤ 65536) × (BadSize sizes → ⊥))
  pub zeros : ((report sizes).row ≡ 0 → ⊥) → Zeros (report sizes)

unfoldable pub RefusesInOrder : Type 0
RefusesInOrder = (sizes : List ℕ) → Refuses sizes

-- The sums.

-- p is the lowest power of two that is not under the size, and not under 16
pub record LowestPower (size p : ℕ) : Type 0 where
  pub power : (n : ℕ) × (p ≡ 2 ^ n)
  pub least : 16 ≤ p
  pub covers : size ≤ p
  pub lowest : (n : ℕ) → 16 ≤ 2 ^ n → size ≤ 2 ^ n → p ≤ 2 ^ n

-- `at` is the lowest multiple of p that is not before `from`
pub record LowestMultiple (p from at : ℕ) : Type 0 where
  pub multiple : (k : ℕ) × (at ≡ k * p)
  pub after : from ≤ at
  pub lowest : (k : ℕ) → from ≤ k * p → at ≤ k * p

-- padded blocks of these sizes, in list order, the first not before `from`, have so many bytes without the gaps, and reach that end
pub data Placed : ℕ → List ℕ → ℕ → ℕ → Type 0 where
  none : (from : ℕ) → Placed from [] 0 from
  next : (from size : ℕ) (sizes : List ℕ) (p at bytes end : ℕ) → LowestPower size p → LowestMultiple p from at
      → Placed (at + p) sizes bytes end → Placed from (size ∷ sizes) (p + bytes) end

-- the sums of an accepted list: padded bytes and end are those of blocks placed so, and no others are
pub record Summed (sizes : List ℕ) (answer : Report) : Type 0 where
  pub raw_is : answer.raw ≡ total (λ size. size) sizes
  pub headed_is : answer.headed ≡ answer.raw + 16 * length sizes
  pub placed : Placed 0 sizes answer.padded answer.end
  pub only : (bytes end : ℕ) → Placed 0 sizes bytes end → (bytes ≡ answer.padded) × (end ≡ answer.end)
  pub gaps : answer.padded ≤ answer.end

unfoldable pub SumsExactly : Type 0
SumsExactly = (sizes : List ℕ) → (report sizes).row ≡ 0 → Summed sizes (report sizes)

-- they fit 33 bits, and 64 by far
pub record Fits (answer : Report) : Type 0 where
  pub raw : answer.raw ≤ 2 ^ 32
  pub headed : answer.headed ≤ 2 ^ 32 + 2 ^ 20
  pub padded : answer.padded ≤ 2 ^ 32
  pub end : answer.end ≤ 2 ^ 32

unfoldable pub NoneOverflows : Type 0
NoneOverflows = (sizes : List ℕ) → (report sizes).row ≡ 0 → Fits (report sizes)

-- The overheads.

-- the extra bytes are all bytes but the raw ones, gaps left out, and stand over raw bytes; an empty list gives 0 over 1
pub record Overheads (sizes : List ℕ) (answer : Report) : Type 0 where
  pub headers : answer.headers.extra + answer.raw ≡ answer.headed
  pub padding : answer.padding.extra + answer.raw ≡ answer.padded
  pub over_raw : (sizes ≡ [] → ⊥) → (answer.headers.over ≡ answer.raw) × (answer.padding.over ≡ answer.raw)
  pub empty : sizes ≡ [] → (answer.headers ≡ record { extra = 0; over = 1 }) × (answer.padding ≡ record { extra = 0; over = 1 })
  pub over_some : (0 < answer.headers.over) × (0 < answer.padding.over)

unfoldable pub ExtraOverRaw : Type 0
ExtraOverRaw = (sizes : List ℕ) → (report sizes).row ≡ 0 → Overheads sizes (report sizes)
