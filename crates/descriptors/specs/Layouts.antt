-- Which type has which at an offset, as it is computed: document 02, W12. Assumes nothing.
use Rattle.std.specs.Prelude.{ℕ, zero, suc, ◌-◌, Bool, true, false, ◌&&◌, ◌||◌, List, leb, eqb, None, Option, Some}
use Rattle.descriptors.specs.Descriptors.{type_at, field_count, field_at, look_up}
use Rattle.descriptors.specs.declared.descriptor.Field.{Field}

-- the test holds of a number below n
unfoldable pub any_below : (ℕ → Bool) → ℕ → Bool
any_below test zero = false
any_below test (suc n) = any_below test n || test n

-- A field reads its type: the field d of the descriptor at p starts at or before o, and its type has the wanted one behind the field's offset. `has` says so of
-- the descriptors before p.
unfoldable pub field_has : (ℕ → ℕ → Bool) → List ℕ → ℕ → ℕ → Field → Bool
field_has has list p o d =
    elim (leb d.offset o) [
      | false ↦ false
      | true ↦ elim (look_up list p d.ty) [ None ↦ false | Some q ↦ has q (o - d.offset) ]
    ]

-- A type reads its fields: the type described at p is the wanted one and o is 0, or a field has it, in at most so many steps.
unfoldable pub type_has_in : ℕ → List ℕ → ℕ → ℕ → ℕ → Bool
type_has_in zero list wanted p o = false
type_has_in (suc steps) list wanted p o =
    (eqb (type_at list p) wanted && eqb o 0)
    || any_below (λ k. field_has (λ q r. type_has_in steps list wanted q r) list p o (field_at list p k)) (field_count list p)

-- the type described at p has `wanted` at o; fields name types described before p, so that the steps are never used up
unfoldable pub type_has : List ℕ → ℕ → ℕ → ℕ → Bool
type_has list wanted p o = type_has_in (suc p) list wanted p o

-- the last of the first n fields of the descriptor at p that starts at or before o
unfoldable pub last_starting : List ℕ → ℕ → ℕ → ℕ → Option ℕ
last_starting list p o zero = None
last_starting list p o (suc n) = elim (leb (field_at list p n).offset o) [ true ↦ Some n | false ↦ last_starting list p o n ]
