-- What shifts and masks are, as arithmetic. Assumes nothing.
use Prim.Native.Nat.{ℕ, ◌+◌, ◌*◌, ◌/◌, ◌%◌, ◌^◌, ◌<◌}
use borrow.Author.Tests.{lt-ltb, ltb-true, eq-eqb, eqb-true}
use mathlib.Core.Path.{◌≡◌}
use mathlib.Core.Bool.{Bool, true, false}
use native.Mathlib.Nat.{zero-add, div-mul-le_self, div-lt_iff_lt-mul, lt_of_le_of_lt, mod-eq_of_lt, one-mul}
use native.Mathlib.Omega.{arith}
use lib.Dec.{eqb, ltb}
use lib.Pow.{pow_pos, pow-lt, shr_lt}
use lib.Bits.{bit_or, or_shifted}
use mir.Val.{bool_byte}
use Rattle.frame.specs.Frame.{frame_start}
use Rattle.frame.specs.Pointers.{bit}
use Rattle.frame.specs.laws.Pointers.{iff_equal}

-- `(a >> n) << n`
pub shr_shl : (a n : ℕ) → a < 2 ^ 64 → (a / 2 ^ n * 2 ^ n) % 2 ^ 64 ≡ frame_start n a
shr_shl a n h = mod-eq_of_lt (lt_of_le_of_lt (div-mul-le_self a (2 ^ n)) h)

-- `1 << n`
pub one_shl : (n : ℕ) → n < 64 → (1 * 2 ^ n) % 2 ^ 64 ≡ 2 ^ n
one_shl n h = rw one-mul (mod-eq_of_lt (pow-lt h))

-- `a >> n == 0`
pub shr_none : (a n : ℕ) → eqb (a / 2 ^ n) 0 ≡ ltb a (2 ^ n)
shr_none a n =
    iff_equal
    (λ e. lt-ltb a (2 ^ n) (rw one-mul at ((div-lt_iff_lt-mul {x = a} {y = 1} (pow_pos n)).0 (omega (arith, eqb-true (a / 2 ^ n) 0 e)))))
    (λ e. eq-eqb (a / 2 ^ n) 0 (omega (arith, shr_lt {n = a} 0 n (rw zero-add (ltb-true a (2 ^ n) e)))))

-- `(b << 63) | (t << 48) | a`
fields : (b t a : ℕ) → b < 2 → t < 2 ^ 15 → a < 2 ^ 48
    → bit_or (bit_or ((b * 2 ^ 63) % 2 ^ 64) ((t * 2 ^ 48) % 2 ^ 64)) a ≡ b * 2 ^ 63 + t * 2 ^ 48 + a
fields b t a hb ht ha =
    let e₁ : (b * 2 ^ 63) % 2 ^ 64 ≡ b * 2 ^ 63 = omega arith in
    let e₂ : (t * 2 ^ 48) % 2 ^ 64 ≡ t * 2 ^ 48 = omega arith in
    let e₃ : bit_or (b * 2 ^ 63) (t * 2 ^ 48) ≡ b * 2 ^ 63 + t * 2 ^ 48 = or_shifted b 63 (t * 2 ^ 48) (omega arith) in
    let e₄ : b * 2 ^ 63 + t * 2 ^ 48 ≡ (b * 2 ^ 15 + t) * 2 ^ 48 = omega arith in
    rw (e₁, e₂, e₃, e₄) (or_shifted (b * 2 ^ 15 + t) 48 a ha)

pub packed : (f : Bool) (t a : ℕ) → t < 2 ^ 15 → a < 2 ^ 48
    → bit_or (bit_or ((bool_byte f * 2 ^ 63) % 2 ^ 64) ((t * 2 ^ 48) % 2 ^ 64)) a ≡ bit f * 2 ^ 63 + t * 2 ^ 48 + a
packed true t a ht ha = fields 1 t a (omega arith) ht ha
packed false t a ht ha = fields 0 t a (omega arith) ht ha
