-- What `read_number` uses: the number that a word is, byte by byte. Assumes nothing.
use Rattle.std.proofs.Common.{ℕ, suc, ◌+◌, ◌*◌, ◌-◌, ◌^◌, ◌≤◌, ◌<◌, ◌≡◌, refl, true, false, List, [], ◌∷◌, length, drop, get_or, Some, None, sym, ◌∙◌, add-one, arith, drop_of_length-le, drop-cons, lt-ltb, le-ltb}
use Rattle.std.proofs.Math.Bool.{and-false}
use Rattle.traffic.specs.Number.{is_digit, all_digits, value_from, number_from, number_of}

-- further bytes never make a value smaller
value_grows : (n : ℕ) (bs : List ℕ) → n ≤ value_from n bs
unfolding value_from
value_grows n [] = omega arith
value_grows n (b ∷ bs) = let l = value_grows (10 * n + (b - 48)) bs in omega arith

-- a byte that makes it too large
from-large : (n b : ℕ) (bs : List ℕ) → 2 ^ 64 ≤ 10 * n + (b - 48) → number_from n (b ∷ bs) ≡ None
unfolding number_from value_from
from-large n b bs l =
    let g = value_grows (10 * n + (b - 48)) bs in
    rw (le-ltb (value_from (10 * n + (b - 48)) bs) (2 ^ 64) (omega arith), and-false) refl

-- a byte that is no digit
from_other : (n b : ℕ) (bs : List ℕ) → is_digit b ≡ false → number_from n (b ∷ bs) ≡ None
unfolding number_from all_digits
from_other n b bs e = rw e refl

-- a digit
from-digit : (n b : ℕ) (bs : List ℕ) → is_digit b ≡ true → number_from n (b ∷ bs) ≡ number_from (10 * n + (b - 48)) bs
unfolding number_from all_digits value_from
from-digit n b bs e = rw e refl

-- no byte
pub empty : (word : List ℕ) → length word ≡ 0 → None ≡ number_of word
unfolding number_of
empty word e = rw e refl

-- The bytes before i have the value n, which fits, and with the bytes from i on it gives the word's number.
pub record Read (word : List ℕ) (n i : ℕ) : Type 0 where
  pub fits : n < 2 ^ 64
  pub rest : number_from n (drop i word) ≡ number_of word

-- at the first byte
pub begun : (word : List ℕ) → 0 < length word → Read word 0 0
unfolding number_of
begun word l = record { fits = omega arith; rest = rw (lt-ltb 0 (length word) l) refl }

module _ {word : List ℕ} {n i : ℕ} (r : Read word n i) where
  -- behind the last byte
  pub ended : length word ≤ i → Some n ≡ number_of word
  unfolding number_from all_digits value_from
  ended l = rw (drop_of_length-le word l, lt-ltb n (2 ^ 64) r.fits) at r.rest

  -- a byte b is read
  module _ (inside : i < length word) where
    -- that byte, and those behind it
    abbrev b : ℕ
    b = get_or word i 0

    abbrev behind : List ℕ
    behind = drop (suc i) word

    -- the rest begins with it
    at_byte : number_from n (b ∷ behind) ≡ number_of word
    at_byte = rw (drop-cons word i 0) at r.rest

    -- it is no digit
    pub other : is_digit b ≡ false → None ≡ number_of word
    other e = sym (from_other n b behind e) ∙ at_byte

    -- the value would not fit
    pub large : 2 ^ 64 ≤ 10 * n + (b - 48) → None ≡ number_of word
    large l = sym (from-large n b behind l) ∙ at_byte

    -- it is read
    pub digit : is_digit b ≡ true → 10 * n + (b - 48) < 2 ^ 64 → Read word (10 * n + (b - 48)) (i + 1)
    digit e s = record { fits = s; rest = rw add-one (sym (from-digit n b behind e) ∙ at_byte) }
