-- An order with few large frames: document 02, W13. Assumes nothing.
use Rattle.std.specs.Prelude.{ℕ, ◌+◌, ◌-◌, ◌^◌, min, Bool, true, cond, not, ◌&&◌, List, [], ◌∷◌, ◌++◌, length, take, get_or, replicate, leb, ltb, Result, Ok, Err}
use Rattle.frame.specs.Tags.{is_small, last_held}
use Rattle.frame.specs.Pointers.{bit}
use Rattle.block.specs.Bytes.{field}
use Rattle.block.specs.Layout.{within, good_exponent}
use Rattle.placement.specs.Orders.{orders, factorial}
use Rattle.placement.specs.declared.answer.Placement.{Placement as Placed}
use Rattle.placement.specs.declared.answer.Refusal.{Refusal}
use Rattle.placement.specs.declared.answer.Refusal.TheVariants.{BadPlan, NoBudget}

-- Objects are named by their positions in the list of sizes.

-- every size is at most 65,535
unfoldable pub good_sizes : List ℕ → Bool
good_sizes [] = true
good_sizes (size ∷ sizes) = leb size 65535 && good_sizes sizes

-- row 26 asks for 1 to 8 sizes in range, and a slot exponent in range
unfoldable pub good_plan : ℕ → List ℕ → Bool
good_plan s sizes = within 1 8 (length sizes) && (good_sizes sizes && good_exponent s)

-- 1 where an object of `size` bytes with its header at h is large-framed
abbrev pub large_at : ℕ → ℕ → ℕ → ℕ
large_at s h size = bit (not (is_small s h size))

-- how many objects are large-framed, placed end to end in that order, the first header at h: without tails the next one starts at document 01's e
unfoldable pub large_from : ℕ → List ℕ → ℕ → List ℕ → ℕ
large_from s sizes h [] = 0
large_from s sizes h (k ∷ order) = let size : ℕ = get_or sizes k 0 in large_at s h size + large_from s sizes (last_held h size) order

-- the large-framed objects of an order, the first header at address 16
abbrev pub large : ℕ → List ℕ → List ℕ → ℕ
large s sizes order = large_from s sizes 16 order

-- 1 where no slot holds an object of `size` bytes: its header, its body and one imaginary byte
abbrev pub oversized : ℕ → ℕ → ℕ
oversized s size = bit (ltb (2 ^ s) (17 + size))

-- the floor: how many sizes have 17 + size > 2^s
unfoldable pub floor_of : ℕ → List ℕ → ℕ
floor_of s [] = 0
floor_of s (size ∷ sizes) = oversized s size + floor_of s sizes

-- the first of `best` and the orders behind it that has the least f
unfoldable pub least_from : (List ℕ → ℕ) → List ℕ → List (List ℕ) → List ℕ
least_from f best [] = best
least_from f best (order ∷ rest) = least_from f (cond (ltb (f order) (f best)) order best) rest

-- the first of the list that has the least f
unfoldable pub first_least : (List ℕ → ℕ) → List (List ℕ) → List ℕ
first_least f [] = []
first_least f (order ∷ rest) = least_from f order rest

-- the first best of the orders that the budget allows
unfoldable pub best_order : ℕ → List ℕ → ℕ → List ℕ
best_order s sizes budget = first_least (large s sizes) (take budget (orders (length sizes)))

-- eight places, the unused ones 0
abbrev pub eight_places : List ℕ → List ℕ
eight_places order = order ++ replicate (8 - length order) 0

-- the answer as C sees it: row 0 and what is found, or a refusal's row and zeros
pub record Placement : Type 0 where
  pub row : ℕ
  pub order : List ℕ
  pub large : ℕ
  pub tried : ℕ
  pub floor : ℕ

-- what is found for a good plan and a budget
unfoldable pub found : ℕ → List ℕ → ℕ → Placement
found s sizes budget =
    record {
      row = 0;
      order = eight_places (best_order s sizes budget);
      large = large s sizes (best_order s sizes budget);
      tried = min budget (factorial (length sizes));
      floor = floor_of s sizes;
    }

-- a refusal gives zeros
abbrev pub refused : ℕ → Placement
refused row = record { row = row; order = replicate 8 0; large = 0; tried = 0; floor = 0 }

-- the answer: 26, then 27
unfoldable pub placement : ℕ → List ℕ → ℕ → Placement
placement s sizes budget = cond (good_plan s sizes) (cond (ltb 0 budget) (found s sizes budget) (refused 27)) (refused 26)

-- document 02's number of a refusal
abbrev pub refusal_number : Refusal → ℕ
refusal_number BadPlan = 26
refusal_number NoBudget = 27

-- the answer that a result stands for
abbrev pub answered : Result Placed Refusal → Placement
answered (Ok p) = record { row = 0; order = p.order; large = p.large; tried = p.tried; floor = p.floor }
answered (Err r) = refused (refusal_number r)

-- its order in one number: place i is byte i, lowest first
abbrev pub order_word : Placement → ℕ
order_word p = field p.order 0 8
