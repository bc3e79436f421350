-- How one run of bytes stands to another: document 02, W5. Assumes nothing.
use Rattle.std.specs.Prelude.{ℕ, true, false, cond, List, [], ◌∷◌, ℤ, pos, negsuc, ◌==◌, nat_lt}
use Rattle.std.specs.declared.cmp.Ordering.{Ordering}
use Rattle.std.specs.declared.cmp.Ordering.TheVariants.{Less, Equal, Greater}

-- by their first differing byte, unsigned; equal where none differs
unfoldable pub compare_bytes : List ℕ → List ℕ → Ordering
compare_bytes [] bs = Equal
compare_bytes (a ∷ rest) [] = Equal
compare_bytes (a ∷ rest) (b ∷ bs) = elim (a == b) [ true ↦ compare_bytes rest bs | false ↦ cond (nat_lt a b) Less Greater ]

-- document 02's number of it
abbrev pub sign : Ordering → ℤ
sign Less = negsuc 0
sign Equal = pos 0
sign Greater = pos 1
