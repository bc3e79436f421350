-- Large-framed objects, one by one, and the floor under them. Assumes nothing.
use Rattle.std.proofs.Common.{ℕ, suc, ◌+◌, ◌*◌, ◌/◌, ◌^◌, ◌≤◌, ◌<◌, ◌≡◌, refl, Bool, true, false, List, [], ◌∷◌, length, get_or, leb, ltb, sym, ap, ◌∙◌, add-zero, div-mul-le_self, arith, pow_pos, leb-true, ltb-true}
use Rattle.std.proofs.Math.Nat.{lt-div-mul-add}
use Rattle.frame.specs.Frame.{same_frame}
use Rattle.frame.specs.Pointers.{bit}
use Rattle.frame.specs.Tags.{wrapper, last_held}
use Rattle.frame.specs.laws.Wrappers.{wrapper_iff}
use Rattle.block.specs.laws.Booleans.{by_bool}
use Rattle.placement.specs.Orders.{positions_from, positions, IsOrder}
use Rattle.placement.specs.Placement.{large_at, large_from, large, oversized, floor_of}
use Rattle.placement.specs.laws.Arrangements.{order_arranges, sum_of, arranged_sum}

-- One object.

-- it is large-framed exactly where no slot holds it from its header to the byte behind it
pub small_here : (s h size : ℕ) → same_frame s h (last_held h size) ≡ true → large_at s h size ≡ 0
small_here s h size e = grind (arith, wrapper_iff)

pub large_here : (s h size : ℕ) → same_frame s h (last_held h size) ≡ false → large_at s h size ≡ 1
large_here s h size e = grind (arith, wrapper_iff)

-- it counts once at most
pub bit_most : (b : Bool) → bit b ≤ 1
bit_most true = omega arith
bit_most false = omega arith

-- one that no slot holds is large-framed wherever it stands
oversized-large : (s h size : ℕ) → oversized s size ≤ large_at s h size
oversized-large s h size =
    by_bool (ltb (2 ^ s) (17 + size))
    (λ t.
    by_bool (leb (wrapper h size) s)
    (λ u.
    let e = (wrapper_iff s h size).0 (leb-true (wrapper h size) s u) in
    let a = lt-div-mul-add {a = last_held h size} {b = 2 ^ s} (pow_pos s) in
    let b = div-mul-le_self h (2 ^ s) in
    let c : h / 2 ^ s * 2 ^ s ≡ last_held h size / 2 ^ s * 2 ^ s = ap (λ (q : ℕ). q * 2 ^ s) e in
    absurd (omega (arith, ltb-true (2 ^ s) (17 + size) t)))
    (λ u. rw (t, u) (omega arith)))
    (λ t. rw t (omega arith))

-- An order of them.

pub large_none : (s : ℕ) (sizes : List ℕ) (h : ℕ) → large_from s sizes h [] ≡ 0
unfolding large_from
large_none s sizes h = refl

pub large_one : (s : ℕ) (sizes : List ℕ) (h k : ℕ) (order : List ℕ)
    → large_from s sizes h (k ∷ order) ≡ large_at s h (get_or sizes k 0) + large_from s sizes (last_held h (get_or sizes k 0)) order
unfolding large_from
large_one s sizes h k order = refl

-- The floor.

large_least : (s : ℕ) (sizes order : List ℕ) (h : ℕ) → sum_of (λ k. oversized s (get_or sizes k 0)) order ≤ large_from s sizes h order
unfolding sum_of large_from
large_least s sizes [] h = omega arith
large_least s sizes (k ∷ order) h = grind (arith, oversized-large, large_least s sizes order)

floor_sum : (s : ℕ) (sizes rest : List ℕ) (from : ℕ) → ((i : ℕ) → i < length rest → get_or sizes (from + i) 0 ≡ get_or rest i 0)
    → sum_of (λ k. oversized s (get_or sizes k 0)) (positions_from (length rest) from) ≡ floor_of s rest
unfolding sum_of floor_of positions_from
floor_sum s sizes [] from e = refl
floor_sum s sizes (x ∷ rest) from e =
    let a : get_or sizes from 0 ≡ x = ap (λ (q : ℕ). get_or sizes q 0) (sym (add-zero from)) ∙ e 0 (omega arith) in
    let b = floor_sum s sizes rest (suc from) (λ i h. ap (λ (q : ℕ). get_or sizes q 0) (omega arith) ∙ e (suc i) (omega arith)) in
    ap (λ (q : ℕ). oversized s q + sum_of (λ k. oversized s (get_or sizes k 0)) (positions_from (length rest) (suc from))) a
    ∙ ap (λ (q : ℕ). oversized s x + q) b

-- no order is under it
pub floor_under : (s : ℕ) (sizes order : List ℕ) → IsOrder (length sizes) order → floor_of s sizes ≤ large s sizes order
floor_under s sizes order o =
    let f : ℕ → ℕ = λ k. oversized s (get_or sizes k 0) in
    let a = arranged_sum f order (positions (length sizes)) (order_arranges (length sizes) order o) in
    let b = floor_sum s sizes sizes 0 (λ i h. ap (λ (q : ℕ). get_or sizes q 0) (omega arith)) in
    let c = large_least s sizes order 16 in
    omega arith
