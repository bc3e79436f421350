-- Words that are numbers, and words that are none; the program's store. By computation. Assumes nothing.
use Rattle.std.specs.Prelude.{◌-◌, ◌^◌, ◌≡◌, refl, true, false, ℕ, Option, Some, None, List, [], ◌∷◌, length, Ok}
use Prim.Native.String.{String}
use Rattle.call_log.specs.Text.{ascii}
use Rattle.traffic.specs.Number.{all_digits, value_from, number_from, number_of}
use Rattle.traffic.specs.Program.{blank, is_full}

-- A word, and what it is read as.
pub record Case : Type 0 where
  pub word : String
  pub number : Option ℕ

-- made of both
abbrev case : String → Option ℕ → Case
case w n = record { word = w; number = n }

-- words and their numbers
abbrev pub cases : List Case
cases =
    case "0" (Some 0)
    ∷ case "7" (Some 7)
    ∷ case "1000" (Some 1000)
    -- zeros in front, as many as there are
    ∷ case "00012" (Some 12)
    ∷ case "0000000000000000000000000000000000000000" (Some 0)
    -- the largest, and what is larger
    ∷ case "18446744073709551615" (Some (2 ^ 64 - 1))
    ∷ case "018446744073709551615" (Some (2 ^ 64 - 1))
    ∷ case "18446744073709551616" None
    ∷ case "99999999999999999999" None
    ∷ case "184467440737095516150" None
    -- no digit at all, or another byte: the two next to the digits are `/` and `:`
    ∷ case "" None
    ∷ case "12a" None
    ∷ case "-1" None
    ∷ case "+1" None
    ∷ case " 1" None
    ∷ case "1 " None
    ∷ case "1/" None
    ∷ case "1:" None
    ∷ []

-- what the words are read as
abbrev read : List Case → List (Option ℕ)
read [] = []
read (c ∷ cs) = number_of (ascii c.word) ∷ read cs

-- what the cases say
abbrev expected : List Case → List (Option ℕ)
expected [] = []
expected (c ∷ cs) = c.number ∷ expected cs

-- each word is read as its case says
pub cases_hold : read cases ≡ expected cases
unfolding all_digits value_from number_from number_of
cases_hold = refl

-- the lengths of image and table, and what is a full log
pub program : (length blank.image ≡ 8192) × (length blank.table ≡ 768) × (is_full (Ok (record { generator = 7; written = 9; full = false })) ≡ false)
    × (is_full (Ok (record { generator = 7; written = 9; full = true })) ≡ true)
program = (refl, refl, refl, refl)
