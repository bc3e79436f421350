-- What holds of the numbers that are read. Assumes nothing.
use Rattle.std.specs.Prelude.{ℕ, suc, ◌^◌, ◌<◌, ◌≡◌, Some}
use Rattle.traffic.specs.Digits.{last_digits}
use Rattle.traffic.specs.Number.{number_of}

-- A number below 2^64 is read back from its digits, with any zeros in front.
unfoldable pub NumbersReadBack : Type 0
NumbersReadBack = (k n : ℕ) → n < 10 ^ suc k → n < 2 ^ 64 → number_of (last_digits 10 (suc k) n) ≡ Some n
