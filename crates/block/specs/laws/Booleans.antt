-- Tests, as values of Bool. Assumes nothing.
use Rattle.std.specs.Prelude.{◌≡◌, Bool, true, false, ◌&&◌, ◌≢◌, refl}

-- by the value of a test, with its equation
pub by_bool : {P : Type 0} (b : Bool) → (b ≡ true → P) → (b ≡ false → P) → P
by_bool true p q = p refl
by_bool false p q = q refl

-- no test is both
pub true_false : {b : Bool} → b ≡ true → b ≢ false
true_false p q = cc

-- a test that cannot hold is false
pub refuted : (b : Bool) → (b ≢ true) → b ≡ false
refuted true n = absurd (n refl)
refuted false n = refl

-- laws of a conjunction: shown, taken apart
pub and_both : (a b : Bool) → a ≡ true → b ≡ true → a && b ≡ true
and_both true b p q = q
and_both false b p q = p

pub and_left : (a b : Bool) → a && b ≡ true → a ≡ true
and_left true b e = refl
and_left false b e = e

pub and_right : (a b : Bool) → a && b ≡ true → b ≡ true
and_right true b e = e
and_right false b e = cc
