-- Orders picked from the positions in one number. Assumes nothing.
use Rattle.std.proofs.Common.{ℕ, zero, suc, ◌-◌, ◌/◌, ◌%◌, ◌≤◌, ◌<◌, ◌≡◌, refl, List, [], ◌∷◌, ap, ◌∙◌, subst, mod-lt, arith}
use Rattle.block.specs.Bytes.{decode, Bytes}
use Rattle.placement.specs.Orders.{order_at, factorial}
use Rattle.placement.specs.laws.Positions.{positions_agree}
use Rattle.placement.specs.laws.Picks.{factorial_some, picked, order_picked, picked_agree, digit_below}
use Rattle.placement.specs.laws.Packed.{place_in, removed_from, place_is, removed_is, without_bytes, eight_bytes, eight_packed}

-- what the digits of `left` pick from the positions in one number
unfoldable pub picked_in : ℕ → ℕ → ℕ → List ℕ
picked_in zero rest left = []
picked_in (suc n) rest left = place_in rest (left / factorial n) ∷ picked_in n (removed_from rest (left / factorial n)) (left % factorial n)

pub picked_end : (rest left : ℕ) → picked_in 0 rest left ≡ []
unfolding picked_in
picked_end rest left = refl

picked_first : (n rest left : ℕ)
    → picked_in (suc n) rest left ≡ place_in rest (left / factorial n) ∷ picked_in n (removed_from rest (left / factorial n)) (left % factorial n)
unfolding picked_in
picked_first n rest left = refl

-- what a digit picks of n positions, and what is left
pub record Turn (n rest left f : ℕ) : Type 0 where
  pub divisor : 0 < f
  pub digit : left / f < n
  pub below : left % f < factorial (n - 1)
  pub is : picked_in n rest left ≡ place_in rest (left / f) ∷ picked_in (n - 1) (removed_from rest (left / f)) (left % f)

pub turn : (n rest left f : ℕ) → 0 < n → left < factorial n → f ≡ factorial (n - 1) → Turn n rest left f
turn n rest left f some l is =
    let e : n ≡ suc (n - 1) = omega arith in
    let below : left < factorial (suc (n - 1)) = subst (λ (m : ℕ). left < factorial m) e l in
    let d = digit_below (n - 1) left below in
    let one : picked_in n rest left ≡ place_in rest (left / f) ∷ picked_in (n - 1) (removed_from rest (left / f)) (left % f) =
    ap (λ (m : ℕ). picked_in m rest left) e ∙ rw is (picked_first (n - 1) rest left) in
    let some' : 0 < f = rw is (factorial_some (n - 1)) in
    record { divisor = some'; digit = rw is (omega arith); below = rw is (mod-lt left (factorial_some (n - 1))); is = one }

-- it is what they pick from the list of these positions
from_list : (n : ℕ) (xs : List ℕ) (left : ℕ) → Bytes xs → picked_in n (decode xs) left ≡ picked n xs left
unfolding picked_in picked
from_list zero xs left b = refl
from_list (suc n) xs left b = grind (arith, without_bytes, place_is, removed_is, from_list n)

-- from 0 to 7 they pick the order of that number
pub picks_order : (n i : ℕ) → n ≤ 8 → i < factorial n → picked_in n 0x0706050403020100 i ≡ order_at n i
picks_order n i h l = grind (arith, eight_packed, from_list, eight_bytes, picked_agree, positions_agree, order_picked)
