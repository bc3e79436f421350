-- What a good list is, case by case, and which type has which at an offset, both without any walk: document 02, W12. Assumes nothing.
use Rattle.std.specs.Prelude.{ℕ, suc, ◌+◌, ◌*◌, ◌<◌, ◌≡◌, true, false, ◌↔◌, List, length}
use Rattle.descriptors.specs.Descriptors.{length_at, kind_at, type_at, size_at, field_count, field_at, good_list}
use Rattle.descriptors.specs.Layouts.{type_has}

-- a position where a descriptor starts, or the list ends
pub data Boundary (list : List ℕ) : ℕ → Type 0 where
  first : Boundary list 0
  next : (p : ℕ) → Boundary list p → p < length list → Boundary list (p + length_at list p)

-- the type is described at p, before `end`
pub record Describes (list : List ℕ) (end type p : ℕ) : Type 0 where
  pub boundary : Boundary list p
  pub before : p < end
  pub type_is : type_at list p ≡ type

-- Row 24, case by case.

-- field k of the descriptor at p is bad
pub data BadFieldAt (list : List ℕ) (p k : ℕ) : Type 0 where
  -- it names no earlier type
  no_earlier_type : ((q : ℕ) → Describes list p (field_at list p k).ty q → ⊥) → BadFieldAt list p k
  -- it starts before the end of field j, the one before it, whose type is described at q
  overlaps :
      (j q : ℕ) → k ≡ suc j → Describes list p (field_at list p j).ty q
      → (field_at list p k).offset < (field_at list p j).offset + size_at list q → BadFieldAt list p k
  -- its type is described at q, and it does not fit inside its record's size
  sticks_out :
      (q : ℕ) → Describes list p (field_at list p k).ty q → size_at list p < (field_at list p k).offset + size_at list q → BadFieldAt list p k

-- the descriptor at p is bad
pub data BadDescriptorAt (list : List ℕ) (p : ℕ) : Type 0 where
  -- it is cut short: of its first 12 bytes, or of its length, not all are left
  no_head : length list < p + 12 → BadDescriptorAt list p
  cut_short : length list < p + length_at list p → BadDescriptorAt list p
  unknown_kind : (kind_at list p ≡ 4 → ⊥) → (kind_at list p ≡ 5 → ⊥) → BadDescriptorAt list p
  no_size : size_at list p ≡ 0 → BadDescriptorAt list p
  -- its length is not 12, or for a record not 12 and whole fields
  plain-length : kind_at list p ≡ 4 → (length_at list p ≡ 12 → ⊥) → BadDescriptorAt list p
  record_length_lem : kind_at list p ≡ 5 → ((n : ℕ) → length_at list p ≡ 12 + 6 * n → ⊥) → BadDescriptorAt list p
  -- its type is described before it
  repeated_type : (q : ℕ) → Describes list p (type_at list p) q → BadDescriptorAt list p
  bad_field : (k : ℕ) → k < field_count list p → BadFieldAt list p k → BadDescriptorAt list p

-- some descriptor of the list is bad
abbrev pub SomeBad : List ℕ → Type 0
SomeBad list = (p : ℕ) × Boundary list p × (p < length list) × BadDescriptorAt list p

-- A list is refused exactly when some descriptor is bad, and passes exactly when none is.
pub record RefusesBad : Type 0 where
  pub refused : (list : List ℕ) → (good_list list ≡ false) ↔ SomeBad list
  pub passed : (list : List ℕ) → (good_list list ≡ true) ↔ (SomeBad list → ⊥)

-- Layouts.

-- A type has U at offset o when it is U and o is 0, or when a field at f ≤ o has a type with U at o - f.
pub data Has (list : List ℕ) : ℕ → ℕ → ℕ → Type 0 where
  itself : (type : ℕ) → Has list type type 0
  by_field :
      (type p k wanted o : ℕ) → Describes list (length list) type p → k < field_count list p → Has list (field_at list p k).ty wanted o
      → Has list type wanted ((field_at list p k).offset + o)

-- On a good list, what is computed is that relation.
unfoldable pub AnswersHas : Type 0
AnswersHas =
    (list : List ℕ) → good_list list ≡ true → (type p wanted o : ℕ) → Describes list (length list) type p
    → (type_has list wanted p o ≡ true) ↔ Has list type wanted o

-- A type has nothing at its end or past it: so of all fields only the last one that starts at or before o can have U there.
unfoldable pub EndsBeforeSize : Type 0
EndsBeforeSize =
    (list : List ℕ) → good_list list ≡ true → (type p wanted o : ℕ) → Describes list (length list) type p → Has list type wanted o
    → o < size_at list p
