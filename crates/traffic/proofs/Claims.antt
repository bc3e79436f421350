-- The claim of numbers: digit by digit, from the last. Assumes nothing.
use Rattle.std.proofs.Common.{ℕ, zero, suc, ◌+◌, ◌*◌, ◌-◌, ◌/◌, ◌%◌, ◌^◌, ◌<◌, ◌≡◌, refl, Bool, true, ◌&&◌, List, [], ◌∷◌, ◌++◌, length, sym, ap, ◌∙◌, pow-suc, arith, length-append, lt-ltb, le-leb}
use Rattle.std.proofs.Math.Bool.{and-true, and_assoc}
use Rattle.traffic.specs.Digits.{hex_digit_ascii, last_digits}
use Rattle.traffic.specs.Number.{is_digit, all_digits, value_from, number_from, number_of}
use Rattle.traffic.specs.Claims.{NumbersReadBack}

-- a digit behind others
all_digits-behind : (bs : List ℕ) (b : ℕ) → all_digits (bs ++ (b ∷ [])) ≡ all_digits bs && is_digit b
unfolding all_digits
all_digits-behind [] b = and-true (is_digit b)
all_digits-behind (a ∷ bs) b = ap (λ (t : Bool). is_digit a && t) (all_digits-behind bs b) ∙ sym (and_assoc (is_digit a) (all_digits bs) (is_digit b))

-- the value with it
value-behind : (n : ℕ) (bs : List ℕ) (b : ℕ) → value_from n (bs ++ (b ∷ [])) ≡ 10 * value_from n bs + (b - 48)
unfolding value_from
value-behind n [] b = refl
value-behind n (a ∷ bs) b = value-behind (10 * n + (a - 48)) bs b

-- the last digit of a number
last_digit : (n : ℕ) → hex_digit_ascii (n % 10) ≡ 48 + n % 10
last_digit n = rw (lt-ltb (n % 10) 10 (omega arith)) refl

-- all are digits
digits_are : (k n : ℕ) → all_digits (last_digits 10 k n) ≡ true
unfolding all_digits
digits_are zero n = refl
digits_are (suc k) n =
    all_digits-behind (last_digits 10 k (n / 10)) (hex_digit_ascii (n % 10))
    ∙ rw (digits_are k (n / 10), last_digit n, le-leb 48 (48 + n % 10) (omega arith), le-leb (48 + n % 10) 57 (omega arith)) refl

-- and have the number's value
digits_value : (k n : ℕ) → n < 10 ^ k → value_from 0 (last_digits 10 k n) ≡ n
unfolding value_from
digits_value zero n l = omega arith
digits_value (suc k) n l =
    let ih = digits_value k (n / 10) (omega (arith, pow-suc 10 k)) in
    value-behind 0 (last_digits 10 k (n / 10)) (hex_digit_ascii (n % 10)) ∙ rw (ih, last_digit n) (omega arith)

pub numbers-read_back : NumbersReadBack
unfolding NumbersReadBack number_of number_from
numbers-read_back k n l s =
    rw (lt-ltb 0 (length (last_digits 10 (suc k) n)) (simp length-append (omega arith)), digits_are (suc k) n, digits_value (suc k) n l, lt-ltb n (2 ^ 64) s) refl
