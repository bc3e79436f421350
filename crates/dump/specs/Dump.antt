-- The bytes of a frame table. Assumes nothing.
use Rattle.std.specs.Prelude.{ℕ, ◌-◌, ◌^◌, ◌≡◌, refl, List, [], ◌∷◌, ◌++◌}
use Rattle.block.specs.Bytes.{encode}

-- 8 bytes for each entry, little-endian, from the first on
unfoldable pub table_bytes : List ℕ → List ℕ
table_bytes [] = []
table_bytes (entry ∷ rest) = encode 8 entry ++ table_bytes rest

-- the lowest byte of an entry comes first
pub example : table_bytes (42 ∷ 258 ∷ (2 ^ 64 - 2) ∷ [])
    ≡ 42 ∷ 0 ∷ 0 ∷ 0 ∷ 0 ∷ 0 ∷ 0 ∷ 0 ∷ 2 ∷ 1 ∷ 0 ∷ 0 ∷ 0 ∷ 0 ∷ 0 ∷ 0 ∷ 254 ∷ 255 ∷ 255 ∷ 255 ∷ 255 ∷ 255 ∷ 255 ∷ 255 ∷ []
unfolding table_bytes encode
example = refl
