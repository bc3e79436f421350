-- Worked examples, computed: what is found at the ends of each rule, and what the claims say of one list of sizes. Assumes nothing.
use Rattle.std.proofs.Common.{ℕ, ◌≤◌, ◌<◌, min, ◌≡◌, refl, Bool, true, false, ◌&&◌, List, [], ◌∷◌, T, eqb, length, take, sym, ap, ◌∙◌, subst, arith, take_at}
use Rattle.frame.specs.Frame.{frame_number_in, frame_number}
use Rattle.frame.specs.Tags.{wrapper}
use Rattle.block.specs.Bytes.{decode, field}
use Rattle.placement.specs.Orders.{positions_from, without, starting_with, orders_of, orders, order_at, factorial, IsOrder, Before}
use Rattle.placement.specs.Placement.{good_sizes, good_plan, large_from, large, floor_of, least_from, first_least, best_order, eight_places, found, refused, Placement, placement, order_word}
use Rattle.placement.specs.Claims.{TriesAll, BadPlan, RefusesInOrder, FindsFirstBest, NoneFewerAtAll, NoneUnderFloor}

-- Answers.

-- slot exponent, sizes and budget; row, order, large-framed objects, orders tried and floor
pub data Case : Type 0 where
  case : (s : ℕ) (sizes : List ℕ) (budget row : ℕ) (order : List ℕ) (large tried floor : ℕ) → Case

-- two lists are the same
same : List ℕ → List ℕ → Bool
same [] [] = true
same [] (y ∷ ys) = false
same (x ∷ xs) [] = false
same (x ∷ xs) (y ∷ ys) = eqb x y && same xs ys

-- the definitions give what the case says
pub holds : Case → Bool
holds (case s sizes budget row order large tried floor) =
    let p : Placement = placement s sizes budget in
    eqb p.row row && (same p.order order && (eqb p.large large && (eqb p.tried tried && eqb p.floor floor)))

-- of every case
pub all : List Case → Bool
all [] = true
all (c ∷ cs) = holds c && all cs

-- the ends of each rule
pub cases : List Case
cases =
    -- the ends of a slot, from address 16 on: e is 63 and 64
    case 6 (31 ∷ []) 1 0 (0 ∷ 0 ∷ 0 ∷ 0 ∷ 0 ∷ 0 ∷ 0 ∷ 0 ∷ []) 0 1 0
    ∷ case 6 (32 ∷ []) 1 0 (0 ∷ 0 ∷ 0 ∷ 0 ∷ 0 ∷ 0 ∷ 0 ∷ 0 ∷ []) 1 1 0
    -- the floor: 17 + size is 2^s, and one more
    ∷ case 6 (47 ∷ []) 1 0 (0 ∷ 0 ∷ 0 ∷ 0 ∷ 0 ∷ 0 ∷ 0 ∷ 0 ∷ []) 1 1 0
    ∷ case 6 (48 ∷ []) 1 0 (0 ∷ 0 ∷ 0 ∷ 0 ∷ 0 ∷ 0 ∷ 0 ∷ 0 ∷ []) 1 1 1
    ∷ case 15 (32751 ∷ []) 1 0 (0 ∷ 0 ∷ 0 ∷ 0 ∷ 0 ∷ 0 ∷ 0 ∷ 0 ∷ []) 1 1 0
    ∷ case 15 (32752 ∷ []) 1 0 (0 ∷ 0 ∷ 0 ∷ 0 ∷ 0 ∷ 0 ∷ 0 ∷ 0 ∷ []) 1 1 1
    -- one order alone is best, and it is not its own inverse
    ∷ case 6 (32 ∷ 6 ∷ 84 ∷ []) 1000 0 (1 ∷ 2 ∷ 0 ∷ 0 ∷ 0 ∷ 0 ∷ 0 ∷ 0 ∷ []) 1 6 1
    ∷ case 6 (133 ∷ 68 ∷ 14 ∷ 33 ∷ []) 24 0 (2 ∷ 0 ∷ 3 ∷ 1 ∷ 0 ∷ 0 ∷ 0 ∷ 0 ∷ []) 2 24 2
    -- of two best orders the first; the budget ends before it, or at it
    ∷ case 15 (40000 ∷ 20000 ∷ 12000 ∷ []) 6 0 (1 ∷ 2 ∷ 0 ∷ 0 ∷ 0 ∷ 0 ∷ 0 ∷ 0 ∷ []) 1 6 1
    ∷ case 15 (40000 ∷ 20000 ∷ 12000 ∷ []) 3 0 (0 ∷ 1 ∷ 2 ∷ 0 ∷ 0 ∷ 0 ∷ 0 ∷ 0 ∷ []) 2 3 1
    ∷ case 15 (40000 ∷ 20000 ∷ 12000 ∷ []) 4 0 (1 ∷ 2 ∷ 0 ∷ 0 ∷ 0 ∷ 0 ∷ 0 ∷ 0 ∷ []) 1 4 1
    -- the last order of all is the best, and the budget ends before it
    ∷ case 6 (15 ∷ 179 ∷ 40 ∷ 268 ∷ 10 ∷ []) 120 0 (4 ∷ 3 ∷ 2 ∷ 1 ∷ 0 ∷ 0 ∷ 0 ∷ 0 ∷ []) 2 120 2
    ∷ case 6 (15 ∷ 179 ∷ 40 ∷ 268 ∷ 10 ∷ []) 119 0 (0 ∷ 1 ∷ 2 ∷ 3 ∷ 4 ∷ 0 ∷ 0 ∷ 0 ∷ []) 3 119 2
    -- headers alone, and an object that ends where the next slot begins
    ∷ case 6 (31 ∷ 0 ∷ []) 2 0 (0 ∷ 1 ∷ 0 ∷ 0 ∷ 0 ∷ 0 ∷ 0 ∷ 0 ∷ []) 1 2 0
    ∷ case 6 (0 ∷ 0 ∷ 0 ∷ 0 ∷ 0 ∷ 0 ∷ 0 ∷ 0 ∷ []) 3 0 (0 ∷ 1 ∷ 2 ∷ 3 ∷ 4 ∷ 5 ∷ 6 ∷ 7 ∷ []) 2 3 0
    -- all orders as good as the first; more budget than orders
    ∷ case 7 (100 ∷ 100 ∷ 100 ∷ []) 18446744073709551615 0 (0 ∷ 1 ∷ 2 ∷ 0 ∷ 0 ∷ 0 ∷ 0 ∷ 0 ∷ []) 2 6 0
    -- the largest size; eight sizes
    ∷ case 15 (65535 ∷ []) 1 0 (0 ∷ 0 ∷ 0 ∷ 0 ∷ 0 ∷ 0 ∷ 0 ∷ 0 ∷ []) 1 1 1
    ∷ case 8 (700 ∷ 90 ∷ 300 ∷ 10 ∷ 65535 ∷ 40 ∷ 239 ∷ 240 ∷ []) 5 0 (0 ∷ 1 ∷ 2 ∷ 3 ∷ 4 ∷ 5 ∷ 6 ∷ 7 ∷ []) 6 5 4
    -- row 26: no size, nine of them, a size too large, first and last, an exponent too low and too high; also without a budget
    ∷ case 6 [] 1 26 (0 ∷ 0 ∷ 0 ∷ 0 ∷ 0 ∷ 0 ∷ 0 ∷ 0 ∷ []) 0 0 0
    ∷ case 6 (1 ∷ 1 ∷ 1 ∷ 1 ∷ 1 ∷ 1 ∷ 1 ∷ 1 ∷ 1 ∷ []) 1 26 (0 ∷ 0 ∷ 0 ∷ 0 ∷ 0 ∷ 0 ∷ 0 ∷ 0 ∷ []) 0 0 0
    ∷ case 6 (65536 ∷ 1 ∷ []) 1 26 (0 ∷ 0 ∷ 0 ∷ 0 ∷ 0 ∷ 0 ∷ 0 ∷ 0 ∷ []) 0 0 0
    ∷ case 6 (1 ∷ 1 ∷ 1 ∷ 1 ∷ 1 ∷ 1 ∷ 1 ∷ 65536 ∷ []) 1 26 (0 ∷ 0 ∷ 0 ∷ 0 ∷ 0 ∷ 0 ∷ 0 ∷ 0 ∷ []) 0 0 0
    ∷ case 5 (1 ∷ []) 1 26 (0 ∷ 0 ∷ 0 ∷ 0 ∷ 0 ∷ 0 ∷ 0 ∷ 0 ∷ []) 0 0 0
    ∷ case 16 (1 ∷ []) 1 26 (0 ∷ 0 ∷ 0 ∷ 0 ∷ 0 ∷ 0 ∷ 0 ∷ 0 ∷ []) 0 0 0
    ∷ case 6 [] 0 26 (0 ∷ 0 ∷ 0 ∷ 0 ∷ 0 ∷ 0 ∷ 0 ∷ 0 ∷ []) 0 0 0
    ∷ case 16 (65536 ∷ []) 0 26 (0 ∷ 0 ∷ 0 ∷ 0 ∷ 0 ∷ 0 ∷ 0 ∷ 0 ∷ []) 0 0 0
    -- row 27
    ∷ case 6 (1 ∷ []) 0 27 (0 ∷ 0 ∷ 0 ∷ 0 ∷ 0 ∷ 0 ∷ 0 ∷ 0 ∷ []) 0 0 0
    ∷ case 15 (65535 ∷ 65535 ∷ 65535 ∷ 65535 ∷ 65535 ∷ 65535 ∷ 65535 ∷ 65535 ∷ []) 0 27 (0 ∷ 0 ∷ 0 ∷ 0 ∷ 0 ∷ 0 ∷ 0 ∷ 0 ∷ []) 0 0 0
    ∷ []

pub answers : T (all cases)
unfolding same holds all cases frame_number_in frame_number wrapper positions_from without starting_with orders_of orders factorial good_sizes good_plan large_from floor_of least_from first_least best_order found placement
answers = tt

-- All six orders of three objects, in turn.
pub orders_of_three :
    orders 3
    ≡ (0 ∷ 1 ∷ 2 ∷ []) ∷ (0 ∷ 2 ∷ 1 ∷ []) ∷ (1 ∷ 0 ∷ 2 ∷ []) ∷ (1 ∷ 2 ∷ 0 ∷ []) ∷ (2 ∷ 0 ∷ 1 ∷ []) ∷ (2 ∷ 1 ∷ 0 ∷ []) ∷ []
unfolding positions_from without starting_with orders_of orders
orders_of_three = refl

-- The order as one number, place i in byte i.
pub word_of :
    order_word (record { row = 0; order = 1 ∷ 2 ∷ 3 ∷ 4 ∷ 5 ∷ 6 ∷ 7 ∷ 8 ∷ []; large = 0; tried = 0; floor = 0 }) ≡ 0x0807060504030201
unfolding decode field
word_of = refl

-- The claims, used: three load buffers, of 40,000, 20,000 and 12,000 bytes.

abbrev buffers : List ℕ
buffers = 40000 ∷ 20000 ∷ 12000 ∷ []

-- the second one, the third, the first
abbrev best : List ℕ
best = 1 ∷ 2 ∷ 0 ∷ []

-- what is computed of them
computed :
    (placement 15 buffers 6 ≡ record { row = 0; order = 1 ∷ 2 ∷ 0 ∷ 0 ∷ 0 ∷ 0 ∷ 0 ∷ 0 ∷ []; large = 1; tried = 6; floor = 1 })
    × ((placement 15 buffers 3).row ≡ 0) × ((placement 15 buffers 3).tried ≡ 3) × ((placement 15 buffers 3).large ≡ 2) × (factorial 3 ≡ 6)
unfolding frame_number_in frame_number wrapper positions_from without starting_with orders_of orders factorial good_sizes good_plan large_from floor_of least_from first_least best_order found placement
computed = (refl, refl, refl, refl, refl)

-- Of the orders: there are n!, each is one and has one number, and lower numbers stand before higher ones. Of the rows: each comes by its condition alone, and a
-- refusal gives zeros. No tried order has fewer than the answer, with all tried no order has, and none is under the floor. Of the three buffers: one is large-framed in
-- the best order, and none has fewer; every order before it has more. Of the first three orders one is given, and none has fewer than its 2.
pub claimed : TriesAll → RefusesInOrder → FindsFirstBest → NoneFewerAtAll → NoneUnderFloor
    → ((n : ℕ) → length (orders n) ≡ factorial n)
    × ((n i : ℕ) → i < factorial n → IsOrder n (order_at n i))
    × ((n : ℕ) (order : List ℕ) → IsOrder n order → (i : ℕ) × (i < factorial n) × (order_at n i ≡ order))
    × ((n i j : ℕ) → i < factorial n → j < factorial n → order_at n i ≡ order_at n j → i ≡ j)
    × ((n i j : ℕ) → i < j → j < factorial n → Before (order_at n i) (order_at n j))
    × ((s : ℕ) (sizes : List ℕ) (budget : ℕ) → BadPlan s sizes → placement s sizes budget ≡ refused 26)
    × ((s : ℕ) (sizes : List ℕ) → (BadPlan s sizes → ⊥) → placement s sizes 0 ≡ refused 27)
    × ((s : ℕ) (sizes : List ℕ) (budget : ℕ) → (BadPlan s sizes → ⊥) → 0 < budget → (placement s sizes budget).row ≡ 0)
    × ((s : ℕ) (sizes : List ℕ) (budget : ℕ) → (placement s sizes budget).row ≡ 0 → (i : ℕ) → i < (placement s sizes budget).tried
    → (placement s sizes budget).large ≤ large s sizes (order_at (length sizes) i))
    × ((s : ℕ) (sizes : List ℕ) (budget : ℕ) → (placement s sizes budget).row ≡ 0 → (placement s sizes budget).tried ≡ factorial (length sizes)
    → (order : List ℕ) → IsOrder (length sizes) order → (placement s sizes budget).large ≤ large s sizes order)
    × (BadPlan 15 buffers → ⊥)
    × (min 6 (factorial 3) ≡ 6) × (large 15 buffers best ≡ 1) × (floor_of 15 buffers ≡ 1)
    × ((order : List ℕ) → IsOrder 3 order → 1 ≤ large 15 buffers order)
    × ((s : ℕ) (sizes order : List ℕ) → IsOrder (length sizes) order → floor_of s sizes ≤ large s sizes order)
    × ((order : List ℕ) → IsOrder 3 order → Before order best → 2 ≤ large 15 buffers order)
    × ((i : ℕ) × (i < 3) × ((placement 15 buffers 3).order ≡ eight_places (order_at 3 i)))
    × ((i : ℕ) → i < 3 → 2 ≤ large 15 buffers (order_at 3 i))
unfolding TriesAll RefusesInOrder FindsFirstBest NoneFewerAtAll NoneUnderFloor
claimed tries refuses finds none_fewer none-under =
    let p = computed.0 in
    let row : (placement 15 buffers 6).row ≡ 0 = ap (λ (q : Placement). q.row) p in
    let tried : (placement 15 buffers 6).tried ≡ 6 = ap (λ (q : Placement). q.tried) p in
    let least : (placement 15 buffers 6).large ≡ 1 = ap (λ (q : Placement). q.large) p in
    let all : factorial 3 ≡ 6 = computed.4 in
    let b = finds 15 buffers 6 row in
    let few = finds 15 buffers 3 computed.1 in
    let is-order : IsOrder 3 (order_at 3 b.index) = (tries 3).only b.index (omega (arith, b.was_tried, tried, all)) in
    let is-best : order_at 3 b.index ≡ best =
    sym (take_at (order_at 3 b.index) _ 3 is-order.length_is) ∙ ap (take 3) (sym b.order_is ∙ ap (λ (q : Placement). q.order) p) in
    let zeros : (s : ℕ) (sizes : List ℕ) (budget r : ℕ) → (placement s sizes budget).row ≡ r → 0 < r → placement s sizes budget ≡ refused r = λ s sizes budget r e h.
    (refuses s sizes budget).zeros (λ z. omega (arith, e, z)) ∙ ap refused e in (
      (λ n. (tries n).number),
      (λ n. (tries n).only),
      (λ n. (tries n).every),
      (λ n. (tries n).once),
      (λ n. (tries n).ascending),
      (λ s sizes budget bad. zeros s sizes budget 26 ((refuses s sizes budget).bad_plan.1 bad) (omega arith)),
      (λ s sizes good. zeros s sizes 0 27 ((refuses s sizes 0).no_budget.1 (good, refl)) (omega arith)),
      (λ s sizes budget good some. (refuses s sizes budget).accepted.1 (good, some)),
      (λ s sizes budget e. (finds s sizes budget e).none_fewer),
      none_fewer,
      ((refuses 15 buffers 6).accepted.0 row).0,
      sym b.tried_is ∙ tried,
      sym (b.large_is ∙ ap (large 15 buffers) is-best) ∙ least,
      sym b.floor_is ∙ ap (λ (q : Placement). q.floor) p,
      (λ order o. omega (arith, none_fewer 15 buffers 6 row (tried ∙ sym all) order o, least)),
      none-under,
      (λ order o w. omega (arith, b.first order o (subst (Before order) (sym is-best) w), least)),
      (few.index, omega (arith, few.was_tried, computed.2), few.order_is),
      (λ i l. omega (arith, few.none_fewer i (omega (arith, computed.2)), computed.3)),
    )
