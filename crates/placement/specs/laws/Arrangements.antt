-- The orders of n objects are all of them, each once, lexicographically: an order is a list whose elements are picked one by one. In order: every order arranges
-- the positions; so each has a number; what a number picks is an order; higher numbers stand behind lower ones; sums over an order. Assumes nothing.
use Rattle.std.proofs.Common.{ℕ, zero, suc, ◌+◌, ◌*◌, ◌/◌, ◌%◌, ◌≤◌, ◌<◌, ◌≡◌, refl, List, [], ◌∷◌, length, get_or, ltb, sym, ap, ◌∙◌, subst, mod-lt, div-mul-le_self, le-div_iff_mul-le, div-add-mod', le_trans, arith, ltb-true, ltb-false}
use Rattle.std.proofs.Math.Arith.{digits_div, digits_mod, digits_lt}
use Rattle.block.specs.laws.Booleans.{by_bool}
use Rattle.placement.specs.Orders.{positions, without, order_at, factorial, IsOrder, Before, here, later}
use Rattle.placement.specs.laws.Positions.{by_order, positions-length, positions-at, positions_ascend, without-length, stood, without_at, stood_other, stood_most, stands_without}
use Rattle.placement.specs.laws.Positions.{Ascending, without_ascends, ascending_once}
use Rattle.placement.specs.laws.Picks.{factorial_some, factorial_zero, picked, order_picked, digit_below}

-- the order arranges xs: its first is an element of xs, and the rest arranges the others
pub data Arranges : List ℕ → List ℕ → Type 0 where
  none : Arranges [] []
  first : (k : ℕ) (order xs : List ℕ) → k < length xs → Arranges order (without k xs) → Arranges (get_or xs k 0 ∷ order) xs

-- a stands in xs
abbrev StandsIn : List ℕ → ℕ → Type 0
StandsIn xs a = (q : ℕ) × (q < length xs) × (get_or xs q 0 ≡ a)

-- Every order arranges the positions.

-- distinct elements of xs, as many as xs has, arrange it
arranges :
    (order xs : List ℕ) → length order ≡ length xs → ((i : ℕ) → i < length order → StandsIn xs (get_or order i 0))
    → ((i j : ℕ) → i < length order → j < length order → get_or order i 0 ≡ get_or order j 0 → i ≡ j) → Arranges order xs
arranges [] [] l w o = none
arranges [] (x ∷ xs) l w o = absurd (omega arith)
arranges (a ∷ order) xs l w o =
    let (k, h, e) = w 0 (omega arith) in
    let others : (i : ℕ) → i < length order → StandsIn (without k xs) (get_or order i 0) = λ i m.
    let (q, u, f) = w (suc i) (omega arith) in
    let apart : q ≡ k → ⊥ = λ d. let z = o (suc i) 0 (omega arith) (omega arith) (sym f ∙ ap (λ (p : ℕ). get_or xs p 0) d ∙ e) in omega arith in
    let (p, v, g) = stands_without k q xs h u apart in
    (p, v, g ∙ f) in
    let once : (i j : ℕ) → i < length order → j < length order → get_or order i 0 ≡ get_or order j 0 → i ≡ j = λ i j m n d.
    let z = o (suc i) (suc j) (omega arith) (omega arith) d in omega arith in
    let r : Arranges order (without k xs) = arranges order (without k xs) (omega (arith, without-length k xs h)) others once in
    subst (λ (x : ℕ). Arranges (x ∷ order) xs) e (first k order xs h r)

pub order_arranges : (n : ℕ) (order : List ℕ) → IsOrder n order → Arranges order (positions n)
order_arranges n order o =
    arranges order (positions n) (o.length_is ∙ sym (positions-length n 0))
    (λ i h.
    let b = o.below i (omega (arith, o.length_is)) in
    (get_or order i 0, rw (positions-length n 0) b, positions-at n 0 (get_or order i 0) b ∙ omega arith))
    (λ i j h k e. o.once i j (omega (arith, o.length_is)) (omega (arith, o.length_is)) e)

-- So every order is picked by some number.

arranged_index : (order xs : List ℕ) → Arranges order xs → (i : ℕ) × (i < factorial (length xs)) × (picked (length xs) xs i ≡ order)
unfolding picked factorial
arranged_index _ _ none = (0, omega arith, refl)
arranged_index _ _ (first k order xs h r) =
    let (i, l, e) = arranged_index order (without k xs) r in
    let n : ℕ = length (without k xs) in
    let f : ℕ = factorial n in
    let d : (k * f + i) / f ≡ k = digits_div k l in
    let m : (k * f + i) % f ≡ i = digits_mod k l in
    let u : k * f + i < suc n * f = digits_lt (let e = without-length k xs h in omega arith) l in
    let p : picked (suc n) xs (k * f + i) ≡ get_or xs k 0 ∷ order =
    ap (λ (q : ℕ). get_or xs q 0 ∷ picked n (without q xs) ((k * f + i) % f)) d
    ∙ ap (λ (q : ℕ). get_or xs k 0 ∷ picked n (without k xs) q) m ∙ ap (λ (q : List ℕ). get_or xs k 0 ∷ q) e in
    (k * f + i, subst (λ (q : ℕ). k * f + i < factorial q) (without-length k xs h) u, subst (λ (q : ℕ). picked q xs (k * f + i) ≡ get_or xs k 0 ∷ order) (without-length k xs h) p)

pub every_order : (n : ℕ) (order : List ℕ) → IsOrder n order → (i : ℕ) × (i < factorial n) × (order_at n i ≡ order)
every_order n order o =
    let (i, l, e) = arranged_index order (positions n) (order_arranges n order o) in
    let q : length (positions n) ≡ n = positions-length n 0 in
    let m : i < factorial n = subst (λ (k : ℕ). i < factorial k) q l in
    (i, m, order_picked n i m ∙ subst (λ (k : ℕ). picked k (positions n) i ≡ order) q e)

-- What is picked is an order.

picked_arranges : (n : ℕ) (xs : List ℕ) (i : ℕ) → length xs ≡ n → i < factorial n → Arranges (picked n xs i) xs
unfolding picked
picked_arranges zero [] i e h = none
picked_arranges zero (x ∷ xs) i e h = absurd (omega arith)
picked_arranges (suc n) xs i e h =
    let d = digit_below n i h in
    let l : i / factorial n < length xs = rw e d in
    first (i / factorial n) (picked n (without (i / factorial n) xs) (i % factorial n)) xs l
    (picked_arranges n (without (i / factorial n) xs) (i % factorial n) (omega (arith, without-length (i / factorial n) xs l)) (mod-lt i (factorial_some n)))

arranged_length : (order xs : List ℕ) → Arranges order xs → length order ≡ length xs
arranged_length _ _ none = refl
arranged_length _ _ (first k order xs h r) = grind (arith, without-length, arranged_length order (without k xs) r)

arranged_stands : (order xs : List ℕ) → Arranges order xs → (i : ℕ) → i < length order → StandsIn xs (get_or order i 0)
arranged_stands _ _ none i l = absurd (omega arith)
arranged_stands _ _ (first k order xs h r) zero l = (k, h, refl)
arranged_stands _ _ (first k order xs h r) (suc i) l =
    let (q, u, e) = arranged_stands order (without k xs) r i (omega arith) in
    (stood k q, omega (arith, stood_most k q, without-length k xs h), sym (without_at k xs q) ∙ e)

-- the first of an order is none of the others
head_other :
    (k : ℕ) (order xs : List ℕ) → k < length xs → Ascending xs → Arranges order (without k xs) → (i : ℕ) → i < length order
    → get_or xs k 0 ≡ get_or order i 0 → ⊥
head_other k order xs h r a i l e =
    let (q, u, f) = arranged_stands order (without k xs) a i l in
    let p : get_or xs (stood k q) 0 ≡ get_or xs k 0 = sym (without_at k xs q) ∙ f ∙ sym e in
    stood_other k q (ascending_once xs r (stood k q) k (omega (arith, stood_most k q, without-length k xs h)) h p)

arranged_once :
    (order xs : List ℕ) → Arranges order xs → Ascending xs → (i j : ℕ) → i < length order → j < length order
    → get_or order i 0 ≡ get_or order j 0 → i ≡ j
arranged_once _ _ none r i j hi hj e = absurd (omega arith)
arranged_once _ _ (first k order xs h a) r zero zero hi hj e = refl
arranged_once _ _ (first k order xs h a) r zero (suc j) hi hj e = absurd (head_other k order xs h r a j (omega arith) e)
arranged_once _ _ (first k order xs h a) r (suc i) zero hi hj e = absurd (head_other k order xs h r a i (omega arith) (sym e))
arranged_once _ _ (first k order xs h a) r (suc i) (suc j) hi hj e =
    ap suc (arranged_once order (without k xs) a (without_ascends k xs h r) i j (omega arith) (omega arith) e)

pub only_orders : (n i : ℕ) → i < factorial n → IsOrder n (order_at n i)
only_orders n i h =
    let a : Arranges (order_at n i) (positions n) =
    subst (λ (o : List ℕ). Arranges o (positions n)) (sym (order_picked n i h)) (picked_arranges n (positions n) i (positions-length n 0) h) in
    let l : length (order_at n i) ≡ n = arranged_length (order_at n i) (positions n) a ∙ positions-length n 0 in
    record {
      length_is = l;
      below = λ j m.
          let (q, u, e) = arranged_stands (order_at n i) (positions n) a j (omega arith) in
          let k : q < n = subst (λ (p : ℕ). q < p) (positions-length n 0) u in
          omega (arith, e, positions-at n 0 q k);
      once = λ j k hj hk e. arranged_once (order_at n i) (positions n) a (positions_ascend n) j k (omega arith) (omega arith) e;
    }

-- The orders ascend.

-- a quotient of more is not less
div_mono : (i j f : ℕ) → 0 < f → i ≤ j → i / f ≤ j / f
div_mono i j f p l = (le-div_iff_mul-le p).1 (le_trans (div-mul-le_self i f) l)

before_same : (a b : ℕ) (xs ys : List ℕ) → a ≡ b → Before xs ys → Before (a ∷ xs) (b ∷ ys)
before_same a b xs ys e w = subst (λ (c : ℕ). Before (a ∷ xs) (c ∷ ys)) e (later a xs ys w)

picked-before :
    (n : ℕ) (xs : List ℕ) → length xs ≡ n → Ascending xs → (i j : ℕ) → i < j → j < factorial n → Before (picked n xs i) (picked n xs j)
unfolding picked Ascending
picked-before zero xs e r i j l h = absurd (omega (arith, factorial_zero))
picked-before (suc n) xs e r i j l h =
    let f : ℕ = factorial n in
    let dj = digit_below n j h in
    let m = div_mono i j f (factorial_some n) (omega arith) in
    by_bool (ltb (i / f) (j / f))
    (λ t. here (get_or xs (i / f) 0) (get_or xs (j / f) 0) _ _ (r (i / f) (j / f) (ltb-true (i / f) (j / f) t) (rw e dj)))
    (λ t.
    let q : i / f ≡ j / f = omega (arith, ltb-false (i / f) (j / f) t) in
    let k : j / f < length xs = rw e dj in
    let s : i % f < j % f = omega (arith, div-add-mod' i f, div-add-mod' j f, ap (λ (x : ℕ). x * f) q) in
    let w = picked-before n (without (j / f) xs) (omega (arith, without-length (j / f) xs k)) (without_ascends (j / f) xs k r) (i % f) (j % f) s (mod-lt j (factorial_some n)) in
    before_same (get_or xs (i / f) 0) (get_or xs (j / f) 0) _ _ (ap (λ (x : ℕ). get_or xs x 0) q)
    (subst (λ (x : ℕ). Before (picked n (without x xs) (i % f)) (picked n (without (j / f) xs) (j % f))) (sym q) w))

pub orders_ascend : (n i j : ℕ) → i < j → j < factorial n → Before (order_at n i) (order_at n j)
orders_ascend n i j l h =
    subst (λ (o : List ℕ). Before o (order_at n j)) (sym (order_picked n i (omega arith)))
    (subst (λ (o : List ℕ). Before (picked n (positions n) i) o) (sym (order_picked n j h))
    (picked-before n (positions n) (positions-length n 0) (positions_ascend n) i j l h))

-- an order that stands before one that stands before a third is not the third
before_apart : (xs ys zs : List ℕ) → Before xs ys → Before ys zs → xs ≡ zs → ⊥
before_apart _ _ _ (here a b xs ys l) (here _ c _ zs m) e = let d : a ≡ c = cc in omega arith
before_apart _ _ _ (here a b xs ys l) (later _ _ zs w) e = let d : a ≡ b = cc in omega arith
before_apart _ _ _ (later a xs ys v) (here _ c _ zs m) e = let d : a ≡ c = cc in omega arith
before_apart _ _ _ (later a xs ys v) (later _ _ zs w) e = let d : xs ≡ zs = cc in before_apart xs ys zs v w d

-- no order stands before one that stands before it
before-not : (xs ys : List ℕ) → Before xs ys → Before ys xs → ⊥
before-not xs ys v w = before_apart xs ys xs v w refl

before_itself : (xs : List ℕ) → Before xs xs → ⊥
before_itself xs w = before-not xs xs w w

-- so an order that stands before another has the lower number
pub before_lower : (n i j : ℕ) → i < factorial n → j < factorial n → Before (order_at n i) (order_at n j) → i < j
before_lower n i j h k w = grind (arith, before-not, orders_ascend, before_itself)

-- and each order has one number
pub orders_once : (n i j : ℕ) → i < factorial n → j < factorial n → order_at n i ≡ order_at n j → i ≡ j
orders_once n i j h k e =
    by_order i j
    (λ l. absurd (before_itself (order_at n j) (subst (λ (o : List ℕ). Before o (order_at n j)) e (orders_ascend n i j l k))))
    (λ g. absurd (before_itself (order_at n j) (subst (λ (o : List ℕ). Before (order_at n j) o) e (orders_ascend n j i g h))))
    (λ d. d)

-- Sums over an order.

-- the sum of f over a list
unfoldable pub sum_of : (ℕ → ℕ) → List ℕ → ℕ
sum_of f [] = 0
sum_of f (x ∷ xs) = f x + sum_of f xs

without-sum : (f : ℕ → ℕ) (k : ℕ) (xs : List ℕ) → k < length xs → sum_of f xs ≡ f (get_or xs k 0) + sum_of f (without k xs)
unfolding sum_of without
without-sum f k [] h = absurd (omega arith)
without-sum f zero (x ∷ xs) h = refl
without-sum f (suc k) (x ∷ xs) h = omega (arith, without-sum f k xs (omega arith))

-- is the same in every order
pub arranged_sum : (f : ℕ → ℕ) (order xs : List ℕ) → Arranges order xs → sum_of f order ≡ sum_of f xs
unfolding sum_of
arranged_sum f _ _ none = refl
arranged_sum f _ _ (first k order xs h r) = grind (arith, without-sum, arranged_sum f order (without k xs) r)
