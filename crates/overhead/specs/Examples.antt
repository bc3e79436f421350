-- Worked examples, computed: reports at the ends of each rule, and what the claims say. Assumes nothing.
use Rattle.std.proofs.Common.{ℕ, ◌+◌, ◌*◌, ◌^◌, ◌≤◌, ◌<◌, ◌≡◌, refl, Bool, true, ◌&&◌, List, [], ◌∷◌, T, eqb, leb, length, arith, pow_mono, leb-true, leb-false}
use Rattle.block.specs.laws.Booleans.{by_bool}
use Rattle.overhead.specs.Overhead.{good_sizes, doubled_in, padded, end_from, total, sums, fraction, report_of, report, Report}
use Rattle.overhead.specs.Claims.{BadSize, RefusesInOrder, LowestPower, LowestMultiple, Placed, none, next, SumsExactly, NoneOverflows, ExtraOverRaw}

-- Reports.

-- the sizes; row, the four sums, then extra and over of headers and of padding
pub data Case : Type 0 where
  case : (sizes : List ℕ) (row raw headed padded end extra over extra' over' : ℕ) → Case

-- the definitions give what the case says
pub holds : Case → Bool
holds (case sizes row raw headed padded end extra over extra' over') =
    let r : Report = report sizes in
    eqb r.row row
    && (eqb r.raw raw
    && (eqb r.headed headed
    && (eqb r.padded padded
    && (eqb r.end end
    && (eqb r.headers.extra extra && (eqb r.headers.over over && (eqb r.padding.extra extra' && eqb r.padding.over over')))))))

-- of every case
pub all : List Case → Bool
all [] = true
all (c ∷ cs) = holds c && all cs

-- the ends of each rule, then sizes drawn at random with the sums of a model
pub cases : List Case
cases =
    case [] 0 0 0 0 0 0 1 0 1
    -- the least block; below and at a power of two, and one above it; the largest size
    ∷ case (1 ∷ []) 0 1 17 16 16 16 1 15 1
    ∷ case (8 ∷ []) 0 8 24 16 16 16 8 8 8
    ∷ case (15 ∷ []) 0 15 31 16 16 16 15 1 15
    ∷ case (16 ∷ []) 0 16 32 16 16 16 16 0 16
    ∷ case (17 ∷ []) 0 17 33 32 32 16 17 15 17
    ∷ case (32 ∷ []) 0 32 48 32 32 16 32 0 32
    ∷ case (33 ∷ []) 0 33 49 64 64 16 33 31 33
    ∷ case (32768 ∷ []) 0 32768 32784 32768 32768 16 32768 0 32768
    ∷ case (32769 ∷ []) 0 32769 32785 65536 65536 16 32769 32767 32769
    ∷ case (65535 ∷ []) 0 65535 65551 65536 65536 16 65535 1 65535
    ∷ case (65536 ∷ []) 0 65536 65552 65536 65536 16 65536 0 65536
    -- five load buffers; gaps count in the end alone; no gap where each end is a multiple already; the order matters
    ∷ case (10 ∷ 20 ∷ 30 ∷ 100 ∷ 1000 ∷ []) 0 1160 1240 1232 2048 80 1160 72 1160
    ∷ case (1 ∷ 65536 ∷ []) 0 65537 65569 65552 131072 32 65537 15 65537
    ∷ case (65536 ∷ 1 ∷ []) 0 65537 65569 65552 65552 32 65537 15 65537
    ∷ case (16 ∷ 17 ∷ 16 ∷ []) 0 49 97 64 80 48 49 15 49
    ∷ case (1 ∷ 1 ∷ 33 ∷ 17 ∷ []) 0 52 116 128 160 64 52 76 52
    -- row 29: no bytes, or too many, in the first place and in the last
    ∷ case (0 ∷ []) 29 0 0 0 0 0 0 0 0
    ∷ case (65537 ∷ []) 29 0 0 0 0 0 0 0 0
    ∷ case (0 ∷ 1 ∷ 1 ∷ []) 29 0 0 0 0 0 0 0 0
    ∷ case (1 ∷ 1 ∷ 65537 ∷ []) 29 0 0 0 0 0 0 0 0
    -- at random
    ∷ case (24006 ∷ 127 ∷ 50856 ∷ []) 0 74989 75037 98432 131072 48 74989 23443 74989
    ∷ case (6743 ∷ 1 ∷ 3 ∷ 14564 ∷ 25378 ∷ []) 0 46689 46769 57376 65536 80 46689 10687 46689
    ∷ case (8192 ∷ 17 ∷ 22921 ∷ 255 ∷ 47015 ∷ []) 0 78400 78480 106784 196608 80 78400 28384 78400
    ∷ case (49808 ∷ 59120 ∷ 59171 ∷ 40394 ∷ 9028 ∷ 33998 ∷ 5811 ∷ 7062 ∷ 1265 ∷ []) 0 265657 265801 362496 411648 144 265657 96839 265657
    ∷ case (2 ∷ 31588 ∷ 1671 ∷ 32767 ∷ 46504 ∷ 37147 ∷ 5479 ∷ 32480 ∷ 52989 ∷ []) 0 240627 240771 305168 393216 144 240627 64541 240627
    ∷ case
    (65 ∷ 28872 ∷ 65536 ∷ 50234 ∷ 61233 ∷ 869 ∷ 62048 ∷ 5 ∷ 61103 ∷ 1 ∷ 16 ∷ 56241 ∷ 65536 ∷ 128 ∷ 8192 ∷ 34623 ∷ 2 ∷ 16384 ∷ 8 ∷ 59429 ∷ [])
    0
    570525
    570845
    648528
    983040
    320
    570525
    78003
    570525
    ∷ []

pub reports : T (all cases)
unfolding holds all cases good_sizes doubled_in padded end_from total sums fraction report_of report
reports = tt

-- A sum has each size once.
pub sum_of_three : (a b c : ℕ) → total (λ size. size) (a ∷ b ∷ c ∷ []) ≡ a + (b + (c + 0))
unfolding total
sum_of_three a b c = refl

-- Powers and multiples, by the words of the claims alone.

-- of 1 byte the lowest power is our least
pub power_of_1 : (p : ℕ) → LowestPower 1 p → p ≡ 16
power_of_1 p l = omega (arith, l.least, l.lowest 4 (omega arith) (omega arith))

-- of 100 bytes it is 128: 64 is under it
pub power_of_100 : (p : ℕ) → LowestPower 100 p → p ≡ 128
power_of_100 p l =
    let (n, e) = l.power in
    let most = l.lowest 7 (omega arith) (omega arith) in
    by_bool (leb n 6)
    (λ t. let low = pow_mono {i = n} {j = 6} (leb-true n 6 t) in absurd (omega (arith, l.covers, e)))
    (λ t. let high = pow_mono {i = 7} {j = n} (leb-false n 6 t) in omega (arith, e, most))

-- of 64 bytes it is 64
pub power_of_64 : (p : ℕ) → LowestPower 64 p → p ≡ 64
power_of_64 p l = omega (arith, l.covers, l.lowest 6 (omega arith) (omega arith))

-- the lowest multiple of 128 from 129 on is 256, and from 128 on 128
pub multiple_from_129 : (at : ℕ) → LowestMultiple 128 129 at → at ≡ 256
multiple_from_129 at l = let (k, e) = l.multiple in omega (arith, e, l.after, l.lowest 2 (omega arith))

pub multiple_from_128 : (at : ℕ) → LowestMultiple 128 128 at → at ≡ 128
multiple_from_128 at l = omega (arith, l.after, l.lowest 1 (omega arith))

-- The claims, used.

-- the first block of a placed list, and what is placed behind it
abbrev pub FirstBlock : ℕ → ℕ → List ℕ → ℕ → ℕ → Type 0
FirstBlock from size sizes bytes end =
    (p : ℕ) × (at : ℕ) × (rest : ℕ) × LowestPower size p × LowestMultiple p from at × Placed (at + p) sizes rest end × (bytes ≡ p + rest)

first_block : (from size : ℕ) (sizes : List ℕ) (bytes end : ℕ) → Placed from (size ∷ sizes) bytes end → FirstBlock from size sizes bytes end
first_block from size sizes bytes end (next _ _ _ p at rest _ power multiple placed) = (p, at, rest, power, multiple, placed, refl)

-- nothing is placed of an empty list
nothing_placed : (from bytes end : ℕ) → Placed from [] bytes end → (bytes ≡ 0) × (end ≡ from)
nothing_placed from bytes end (none _) = (refl, refl)

-- Of the rows: each comes by its condition alone, and a refusal gives zeros. Of an accepted list: raw bytes are the sum of the sizes, headers 16 bytes
-- for each; padded bytes and end are those of blocks placed one behind the other from 0 on, and of nothing else; they fit 33 bits; the extra bytes with
-- the raw ones are all bytes, and stand over raw bytes, or over 1 for an empty list.
pub claimed : RefusesInOrder → SumsExactly → NoneOverflows → ExtraOverRaw
    → ((sizes : List ℕ) → 65536 < length sizes → (report sizes).row ≡ 28)
    × ((sizes : List ℕ) → length sizes ≤ 65536 → BadSize sizes → (report sizes).row ≡ 29)
    × ((sizes : List ℕ) → length sizes ≤ 65536 → (BadSize sizes → ⊥) → (report sizes).row ≡ 0)
    × ((sizes : List ℕ) → (report sizes).row ≡ 28 → 65536 < length sizes)
    × ((sizes : List ℕ) → (report sizes).row ≡ 29 → (length sizes ≤ 65536) × BadSize sizes)
    × ((sizes : List ℕ) → (report sizes).row ≡ 0 → (length sizes ≤ 65536) × (BadSize sizes → ⊥))
    × ((sizes : List ℕ) → ((report sizes).row ≡ 0 → ⊥)
    → ((report sizes).raw ≡ 0) × ((report sizes).headed ≡ 0) × ((report sizes).padded ≡ 0) × ((report sizes).end ≡ 0)
    × ((report sizes).headers.extra ≡ 0) × ((report sizes).headers.over ≡ 0) × ((report sizes).padding.extra ≡ 0) × ((report sizes).padding.over ≡ 0))
    × ((sizes : List ℕ) → (report sizes).row ≡ 0 → (report sizes).raw ≡ total (λ size. size) sizes)
    × ((sizes : List ℕ) → (report sizes).row ≡ 0 → (report sizes).headed ≡ (report sizes).raw + 16 * length sizes)
    × ((size : ℕ) (sizes : List ℕ) → (report (size ∷ sizes)).row ≡ 0
    → FirstBlock 0 size sizes (report (size ∷ sizes)).padded (report (size ∷ sizes)).end)
    × ((report []).row ≡ 0 → ((report []).padded ≡ 0) × ((report []).end ≡ 0))
    × ((sizes : List ℕ) → (report sizes).row ≡ 0 → (bytes end : ℕ) → Placed 0 sizes bytes end
    → (bytes ≡ (report sizes).padded) × (end ≡ (report sizes).end))
    × ((sizes : List ℕ) → (report sizes).row ≡ 0 → (report sizes).padded ≤ (report sizes).end)
    × ((sizes : List ℕ) → (report sizes).row ≡ 0
    → ((report sizes).raw ≤ 2 ^ 32) × ((report sizes).headed ≤ 2 ^ 32 + 2 ^ 20) × ((report sizes).padded ≤ 2 ^ 32) × ((report sizes).end ≤ 2 ^ 32))
    × ((sizes : List ℕ) → (report sizes).row ≡ 0 → (report sizes).headers.extra + (report sizes).raw ≡ (report sizes).headed)
    × ((sizes : List ℕ) → (report sizes).row ≡ 0 → (report sizes).padding.extra + (report sizes).raw ≡ (report sizes).padded)
    × ((sizes : List ℕ) → (report sizes).row ≡ 0 → (sizes ≡ [] → ⊥)
    → ((report sizes).headers.over ≡ (report sizes).raw) × ((report sizes).padding.over ≡ (report sizes).raw))
    × ((report []).row ≡ 0 → ((report []).headers ≡ record { extra = 0; over = 1 }) × ((report []).padding ≡ record { extra = 0; over = 1 }))
    × ((sizes : List ℕ) → (report sizes).row ≡ 0 → (0 < (report sizes).headers.over) × (0 < (report sizes).padding.over))
unfolding RefusesInOrder SumsExactly NoneOverflows ExtraOverRaw
claimed refuses summed fit over = (
  (λ sizes. (refuses sizes).too_long.1),
  (λ sizes l b. (refuses sizes).bad_size.1 (l, b)),
  (λ sizes l n. (refuses sizes).accepted.1 (l, n)),
  (λ sizes. (refuses sizes).too_long.0),
  (λ sizes. (refuses sizes).bad_size.0),
  (λ sizes. (refuses sizes).accepted.0),
  (λ sizes n.
      let z = (refuses sizes).zeros n in
      (z.raw, z.headed, z.padded, z.end, z.headers.0, z.headers.1, z.padding.0, z.padding.1)),
  (λ sizes e. (summed sizes e).raw_is),
  (λ sizes e. (summed sizes e).headed_is),
  (λ size sizes e. first_block 0 size sizes _ _ (summed (size ∷ sizes) e).placed),
  (λ e. nothing_placed 0 _ _ (summed [] e).placed),
  (λ sizes e. (summed sizes e).only),
  (λ sizes e. (summed sizes e).gaps),
  (λ sizes e. let f = fit sizes e in (f.raw, f.headed, f.padded, f.end)),
  (λ sizes e. (over sizes e).headers),
  (λ sizes e. (over sizes e).padding),
  (λ sizes e. (over sizes e).over_raw),
  (λ e. (over [] e).empty refl),
  (λ sizes e. (over sizes e).over_some),
)
