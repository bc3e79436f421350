-- Turns of the loops over the positions of an order: one writes them, one counts large-framed objects. Assumes nothing.
use Rattle.std.proofs.Common.{◌≡◌, ℕ, zero, suc, ◌+◌, ◌-◌, ◌*◌, ◌^◌, ◌≤◌, ◌<◌, not, List, [], ◌∷◌, ◌++◌, length, get_or, drop, replicate, ap, ◌∙◌, zero-add, suc-add, arith}
use Rattle.std.proofs.Math.Seq.{sets, sets-eq}
use Rattle.frame.specs.Tags.{is_small, last_held}
use Rattle.placement.specs.Orders.{order_at, factorial}
use Rattle.placement.specs.Placement.{eight_places, large_at, large_from, large}
use Rattle.placement.specs.laws.Arrangements.{only_orders}
use Rattle.placement.specs.laws.Counts.{bit_most, large_none, large_one}

-- zeros behind zeros
drop-zeros : (k m : ℕ) → ◌≡◌ {A = List ℕ} (drop k (replicate (k + m) 0)) (replicate m 0)
drop-zeros zero m = ap (λ (x : ℕ). replicate {A = ℕ} x 0) (zero-add m)
drop-zeros (suc k) m = rw (suc-add k m) (drop-zeros k m)

-- an order written into zeros
into_zeros : (order : List ℕ) → length order ≤ 8 → sets (replicate 8 0) 0 order ≡ eight_places order
into_zeros order h =
    let n : ℕ = length order in
    sets-eq order (replicate 8 0) 0 (omega arith)
    ∙ ap (λ (k : ℕ). order ++ drop k (replicate 8 0)) (zero-add n)
    ∙ ap (λ (k : ℕ). order ++ drop n (replicate k 0)) (let e : 8 ≡ n + (8 - n) = omega arith in e)
    ∙ ap (λ (zs : List ℕ). order ++ zs) (drop-zeros n (8 - n))

-- where the loop that writes stands: what is left, written from place j on, makes the whole order
pub record Placing (n i : ℕ) (order left : List ℕ) (j : ℕ) : Type 0 where
  pub inside : j + length left ≤ 8
  pub is : sets order j left ≡ eight_places (order_at n i)

pub placing_begins : (n i : ℕ) (left : List ℕ) → n ≤ 8 → i < factorial n → left ≡ order_at n i → Placing n i (replicate 8 0) left 0
placing_begins n i left h l e =
    let all = (only_orders n i l).length_is in
    rw e (record { inside = omega arith; is = into_zeros (order_at n i) (omega arith) })

-- where the loop that counts stands: the count, with that of what is left from h on, is that of the whole order
pub record Counted (s : ℕ) (sizes : List ℕ) (i : ℕ) (left : List ℕ) (count h : ℕ) : Type 0 where
  pub most : count + length left ≤ 8
  pub near : h + (2 ^ 32 + 16) * length left ≤ 16 + (2 ^ 32 + 16) * 8
  pub inside : (k : ℕ) → k < length left → get_or left k 0 < length sizes
  pub is : count + large_from s sizes h left ≡ large s sizes (order_at (length sizes) i)

pub counting_begins : (s : ℕ) (sizes : List ℕ) (i : ℕ) (left : List ℕ) → length sizes ≤ 8 → i < factorial (length sizes)
    → left ≡ order_at (length sizes) i → Counted s sizes i left 0 16
counting_begins s sizes i left h l e =
    let order = only_orders (length sizes) i l in
    rw e
    (record {
      most = omega (arith, order.length_is);
      near = omega (arith, order.length_is);
      inside = λ k m. order.below k (omega (arith, order.length_is));
      is = omega arith;
    })

pub counting_goes_on : (s : ℕ) (sizes : List ℕ) (i : ℕ) (left left' : List ℕ) (count h place size count' h' : ℕ)
    → Counted s sizes i left count h → left ≡ place ∷ left' → size ≡ get_or sizes place 0 → size < 2 ^ 32
    → count' ≡ count + large_at s h size → h' ≡ last_held h size → Counted s sizes i left' count' h'
counting_goes_on s sizes i left left' count h place size count' h' now e size_is fits count_is h_is =
    let most = rw e at now.most in
    let near = rw e at now.near in
    let inside = rw e at now.inside in
    let is = rw e at now.is in
    let turn = rw (← size_is, ← h_is) at (large_one s sizes h place left') in
    record {
      most = omega (arith, most, bit_most (not (is_small s h size)));
      near = omega (arith, near);
      inside = λ k m. inside (suc k) (omega arith);
      is = omega (arith, is, turn);
    }

pub counting_ends : (s : ℕ) (sizes : List ℕ) (i : ℕ) (left : List ℕ) (count h : ℕ) → Counted s sizes i left count h → left ≡ []
    → count ≡ large s sizes (order_at (length sizes) i)
counting_ends s sizes i left count h now e = grind (arith, large_none)
