-- What the search for an order promises: document 02, W13. Assumes nothing.
use Rattle.std.specs.Prelude.{ℕ, ◌≤◌, ◌<◌, min, ◌≡◌, ◌↔◌, List, length, get_or}
use Rattle.placement.specs.Orders.{orders, order_at, factorial, IsOrder, Before}
use Rattle.placement.specs.Placement.{large, floor_of, eight_places, refused, Placement, placement}

-- The orders.

-- the orders of n objects are all orders, each once, lexicographically
pub record Lexicographic (n : ℕ) : Type 0 where
  pub number : length (orders n) ≡ factorial n
  pub only : (i : ℕ) → i < factorial n → IsOrder n (order_at n i)
  pub every : (order : List ℕ) → IsOrder n order → (i : ℕ) × (i < factorial n) × (order_at n i ≡ order)
  pub once : (i j : ℕ) → i < factorial n → j < factorial n → order_at n i ≡ order_at n j → i ≡ j
  pub ascending : (i j : ℕ) → i < j → j < factorial n → Before (order_at n i) (order_at n j)

unfoldable pub TriesAll : Type 0
TriesAll = (n : ℕ) → Lexicographic n

-- The rows.

-- what row 26 refuses
pub data BadPlan (s : ℕ) (sizes : List ℕ) : Type 0 where
  no_sizes : length sizes ≡ 0 → BadPlan s sizes
  too_many : 8 < length sizes → BadPlan s sizes
  too_large : (k : ℕ) → k < length sizes → 65535 < get_or sizes k 0 → BadPlan s sizes
  low_exponent : s < 6 → BadPlan s sizes
  high_exponent : 15 < s → BadPlan s sizes

-- 26 comes exactly for a bad plan, 27 exactly for a good one without a budget, and no other number; a refusal gives 0 for every value
pub record Refuses (s : ℕ) (sizes : List ℕ) (budget : ℕ) : Type 0 where
  pub bad_plan : ((placement s sizes budget).row ≡ 26) ↔ BadPlan s sizes
  pub no_budget : ((placement s sizes budget).row ≡ 27) ↔ ((BadPlan s sizes → ⊥) × (budget ≡ 0))
  pub accepted : ((placement s sizes budget).row ≡ 0) ↔ ((BadPlan s sizes → ⊥) × (0 < budget))
  pub zeros : ((placement s sizes budget).row ≡ 0 → ⊥) → placement s sizes budget ≡ refused (placement s sizes budget).row

unfoldable pub RefusesInOrder : Type 0
RefusesInOrder = (s : ℕ) (sizes : List ℕ) (budget : ℕ) → Refuses s sizes budget

-- What is found.

-- the answer has the order tried as number `index`: no tried order has fewer large-framed objects, and every order before it has more
pub record FirstBest (s : ℕ) (sizes : List ℕ) (budget : ℕ) (answer : Placement) : Type 0 where
  pub tried_is : answer.tried ≡ min budget (factorial (length sizes))
  pub floor_is : answer.floor ≡ floor_of s sizes
  pub index : ℕ
  pub was_tried : index < answer.tried
  pub order_is : answer.order ≡ eight_places (order_at (length sizes) index)
  pub large_is : answer.large ≡ large s sizes (order_at (length sizes) index)
  pub none_fewer : (i : ℕ) → i < answer.tried → answer.large ≤ large s sizes (order_at (length sizes) i)
  pub first : (order : List ℕ) → IsOrder (length sizes) order → Before order (order_at (length sizes) index) → answer.large < large s sizes order

unfoldable pub FindsFirstBest : Type 0
FindsFirstBest =
    (s : ℕ) (sizes : List ℕ) (budget : ℕ) → (placement s sizes budget).row ≡ 0 → FirstBest s sizes budget (placement s sizes budget)

-- with all orders tried none has fewer
unfoldable pub NoneFewerAtAll : Type 0
NoneFewerAtAll =
    (s : ℕ) (sizes : List ℕ) (budget : ℕ) → (placement s sizes budget).row ≡ 0 → (placement s sizes budget).tried ≡ factorial (length sizes)
    → (order : List ℕ) → IsOrder (length sizes) order → (placement s sizes budget).large ≤ large s sizes order

-- no order at all is under the floor
unfoldable pub NoneUnderFloor : Type 0
NoneUnderFloor = (s : ℕ) (sizes order : List ℕ) → IsOrder (length sizes) order → floor_of s sizes ≤ large s sizes order
