-- The number that a word is in decimal. Assumes nothing.
use Rattle.std.specs.Prelude.{ℕ, ◌+◌, ◌*◌, ◌-◌, ◌^◌, Bool, true, cond, ◌&&◌, Option, Some, None, List, [], ◌∷◌, leb, ltb, length}

-- a digit in ASCII, `0` to `9`
abbrev pub is_digit : ℕ → Bool
is_digit b = leb 48 b && leb b 57

-- there are only digits
unfoldable pub all_digits : List ℕ → Bool
all_digits [] = true
all_digits (b ∷ bs) = is_digit b && all_digits bs

-- the value of digits, behind others whose value is n
unfoldable pub value_from : ℕ → List ℕ → ℕ
value_from n [] = n
value_from n (b ∷ bs) = value_from (10 * n + (b - 48)) bs

-- the number that they are with those before them: only digits, and a value below 2^64
unfoldable pub number_from : ℕ → List ℕ → Option ℕ
number_from n bs = cond (all_digits bs && ltb (value_from n bs) (2 ^ 64)) (Some (value_from n bs)) None

-- the number that a word is: it has a byte at least, and zeros in front do not count
unfoldable pub number_of : List ℕ → Option ℕ
number_of word = cond (ltb 0 (length word)) (number_from 0 word) None
