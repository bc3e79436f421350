-- The definitions over the sizes in the words of `std`, and a turn of the loop over an order. Assumes nothing.
use Rattle.std.proofs.Common.{◌≡◌, ℕ, ◌+◌, ◌^◌, List, [], ◌∷◌, Bool, true, false, cond, ◌&&◌, refl, leb, ltb, count_by, ap, arith}
use Rattle.std.specs.List.{list_all}
use Rattle.std.proofs.lemmas.List.Recursion.{is_count_by}
use Rattle.frame.specs.Pointers.{bit}
use Rattle.placement.specs.Placement.{good_sizes, floor_of}

pub good_all : (sizes : List ℕ) → good_sizes sizes ≡ list_all (λ size. leb size 65535) sizes
unfolding good_sizes
good_all [] = refl
good_all (size ∷ sizes) = ap (λ b. leb size 65535 && b) (good_all sizes)

bit_plus : (b : Bool) (n : ℕ) → bit b + n ≡ cond b (1 + n) n
bit_plus true n = refl
bit_plus false n = omega arith

pub floor_count : (s : ℕ) (sizes : List ℕ) → floor_of s sizes ≡ count_by (λ size. ltb (2 ^ s) (17 + size)) sizes
unfolding floor_of
floor_count s = is_count_by (floor_of s) (λ size. ltb (2 ^ s) (17 + size)) refl (λ size sizes. bit_plus (ltb (2 ^ s) (17 + size)) (floor_of s sizes))
