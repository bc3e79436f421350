-- The overhead report against padded blocks: document 02, W14. Assumes nothing.
use Rattle.std.specs.Prelude.{ℕ, zero, suc, ◌+◌, ◌-◌, ◌*◌, ◌/◌, Bool, true, false, cond, ◌&&◌, List, [], ◌∷◌, length, leb, Result, Ok, Err}
use Rattle.block.specs.Layout.{within}
use Rattle.overhead.specs.declared.answer.Fraction.{Fraction}
use Rattle.overhead.specs.declared.answer.Report.{Report as Given}
use Rattle.overhead.specs.declared.answer.Refusal.{Refusal}
use Rattle.overhead.specs.declared.answer.Refusal.TheVariants.{TooMany, BadSize}

-- What is taken.

-- row 28 asks for at most 65,536 sizes
abbrev pub good_count : List ℕ → Bool
good_count sizes = leb (length sizes) 65536

-- a size is 1 to 65,536
abbrev pub good_size : ℕ → Bool
good_size size = within 1 65536 size

-- row 29 asks for every size in range
unfoldable pub good_sizes : List ℕ → Bool
good_sizes [] = true
good_sizes (size ∷ sizes) = good_size size && good_sizes sizes

-- Padded blocks: those of baggy bounds (document 003), of 16 bytes at least.

-- p doubled until it is not under the size, at most `steps` times
unfoldable pub doubled_in : ℕ → ℕ → ℕ → ℕ
doubled_in zero p size = p
doubled_in (suc steps) p size = elim (leb size p) [ true ↦ p | false ↦ doubled_in steps (p * 2) size ]

-- bytes of the padded block: the lowest power of two not under the size, 16 at least; `size` doublings are enough
unfoldable pub padded : ℕ → ℕ
padded size = doubled_in size 16 size

-- where a block of p bytes starts: at the lowest multiple of p not before the previous end
abbrev pub block_start : ℕ → ℕ → ℕ
block_start p from = (from + (p - 1)) / p * p

-- and where it ends
abbrev pub block_end : ℕ → ℕ → ℕ
block_end p from = block_start p from + p

-- the end that the blocks of these sizes reach, in list order, where the previous block ends at `from`
unfoldable pub end_from : ℕ → List ℕ → ℕ
end_from from [] = from
end_from from (size ∷ sizes) = end_from (block_end (padded size) from) sizes

-- The report.

-- bytes of an object of `size` bytes with our header
abbrev pub headed : ℕ → ℕ
headed size = size + 16

-- the sum of f over the sizes
unfoldable pub total : (ℕ → ℕ) → List ℕ → ℕ
total f [] = 0
total f (size ∷ sizes) = f size + total f sizes

-- sums over the sizes, in bytes: raw, with headers, padded, and the end that padded blocks reach
pub record Sums : Type 0 where
  pub raw : ℕ
  pub headed : ℕ
  pub padded : ℕ
  pub end : ℕ

-- the exact sums; the end is that of blocks from 0 on
unfoldable pub sums : List ℕ → Sums
sums sizes =
    record { raw = total (λ size. size) sizes; headed = total headed sizes; padded = total padded sizes; end = end_from 0 sizes }

-- the extra bytes over raw bytes; 0 over 1 where there are none
unfoldable pub fraction : ℕ → ℕ → Fraction
fraction bytes raw = cond (leb raw 0) (record { extra = 0; over = 1 }) (record { extra = bytes - raw; over = raw })

-- the answer as C sees it: row 0, the sums and the overheads, or a refusal's row and zeros
pub record Report : Type 0 where
  pub row : ℕ
  pub raw : ℕ
  pub headed : ℕ
  pub padded : ℕ
  pub end : ℕ
  pub headers : Fraction
  pub padding : Fraction

-- the sums, and the overheads of headers and of padding without gaps
unfoldable pub report_of : Sums → Report
report_of s =
    record {
      row = 0;
      raw = s.raw;
      headed = s.headed;
      padded = s.padded;
      end = s.end;
      headers = fraction s.headed s.raw;
      padding = fraction s.padded s.raw;
    }

-- a refusal gives zeros
abbrev pub refused : ℕ → Report
refused row =
    let none : Fraction = record { extra = 0; over = 0 } in
    record { row = row; raw = 0; headed = 0; padded = 0; end = 0; headers = none; padding = none }

-- the answer: 28, then 29
unfoldable pub report : List ℕ → Report
report sizes = cond (good_count sizes) (cond (good_sizes sizes) (report_of (sums sizes)) (refused 29)) (refused 28)

-- document 02's number of a refusal
abbrev pub refusal_number : Refusal → ℕ
refusal_number TooMany = 28
refusal_number BadSize = 29

-- the answer that a result stands for
abbrev pub answered : Result Given Refusal → Report
answered (Ok r) =
    record { row = 0; raw = r.raw; headed = r.headed; padded = r.padded; end = r.end; headers = r.headers; padding = r.padding }
answered (Err r) = refused (refusal_number r)
