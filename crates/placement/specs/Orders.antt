-- Orders of positions, from 0, as they are tried: document 02, W13. Assumes nothing.
use Rattle.std.specs.Prelude.{ℕ, zero, suc, ◌*◌, ◌<◌, ◌≡◌, List, [], ◌∷◌, ◌++◌, map, length, get_or}

-- n positions from `from` on, ascending
unfoldable pub positions_from : ℕ → ℕ → List ℕ
positions_from zero from = []
positions_from (suc n) from = from ∷ positions_from n (suc from)

-- the positions of n objects
abbrev pub positions : ℕ → List ℕ
positions n = positions_from n 0

-- the list without its element k
unfoldable pub without : ℕ → List ℕ → List ℕ
without k [] = []
without zero (x ∷ xs) = xs
without (suc k) (x ∷ xs) = x ∷ without k xs

-- for each of the first k elements of xs in turn: that element, followed by each list that `rest` gives for it
unfoldable pub starting_with : (ℕ → List (List ℕ)) → List ℕ → ℕ → List (List ℕ)
starting_with rest xs zero = []
starting_with rest xs (suc k) = starting_with rest xs k ++ map (λ order. get_or xs k 0 ∷ order) (rest k)

-- the orders of n ascending positions, lexicographically: each in turn comes first, and the orders of the others follow it
unfoldable pub orders_of : ℕ → List ℕ → List (List ℕ)
orders_of zero xs = [] ∷ []
orders_of (suc n) xs = starting_with (λ k. orders_of n (without k xs)) xs (suc n)

-- all orders of n objects, as they are tried
unfoldable pub orders : ℕ → List (List ℕ)
orders n = orders_of n (positions n)

-- the order that is tried as number i, from 0
abbrev pub order_at : ℕ → ℕ → List ℕ
order_at n i = get_or (orders n) i []

-- how many there are
unfoldable pub factorial : ℕ → ℕ
factorial zero = 1
factorial (suc n) = suc n * factorial n

-- an order of n objects: each position from 0 to n - 1 once
pub record IsOrder (n : ℕ) (order : List ℕ) : Type 0 where
  pub length_is : length order ≡ n
  pub below : (i : ℕ) → i < n → get_or order i 0 < n
  pub once : (i j : ℕ) → i < n → j < n → get_or order i 0 ≡ get_or order j 0 → i ≡ j

-- one order stands lexicographically before another: at the first place where they differ it has the lower position
pub data Before : List ℕ → List ℕ → Type 0 where
  here : (a b : ℕ) (xs ys : List ℕ) → a < b → Before (a ∷ xs) (b ∷ ys)
  later : (a : ℕ) (xs ys : List ℕ) → Before xs ys → Before (a ∷ xs) (a ∷ ys)
