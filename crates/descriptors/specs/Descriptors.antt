-- The type descriptors of a lent list of bytes, and when a list is good: document 02, W12, row 24. Assumes nothing.
use Rattle.std.specs.Prelude.{ℕ, zero, suc, ◌+◌, ◌-◌, ◌*◌, ◌/◌, ◌%◌, ◌≤◌, ◌<◌, ◌≡◌, Bool, true, false, cond, ◌&&◌, List, length, leb, ltb, eqb, None, Option, Some}
use Rattle.block.specs.Bytes.{field}
use Rattle.descriptors.specs.declared.descriptor.Descriptor.{Descriptor}
use Rattle.descriptors.specs.declared.descriptor.Field.{Field}

-- A descriptor is named by its position p in the list, that of its first byte.

-- its first 12 bytes: length, kind, type number, described size
unfoldable pub descriptor_at : List ℕ → ℕ → Descriptor
descriptor_at list p =
    record { length = field list p 4; kind = field list (p + 4) 2; ty = field list (p + 6) 2; size = field list (p + 8) 4 }

-- its length in bytes, fields included
abbrev pub length_at : List ℕ → ℕ → ℕ
length_at list p = (descriptor_at list p).length

-- 4 for a plain type, 5 for a record
abbrev pub kind_at : List ℕ → ℕ → ℕ
kind_at list p = (descriptor_at list p).kind

-- the number of the type that it describes
abbrev pub type_at : List ℕ → ℕ → ℕ
type_at list p = (descriptor_at list p).ty

-- the described size of that type, in bytes
abbrev pub size_at : List ℕ → ℕ → ℕ
size_at list p = (descriptor_at list p).size

-- how many fields it has; a plain type, of 12 bytes, has none
abbrev pub field_count : List ℕ → ℕ → ℕ
field_count list p = (length_at list p - 12) / 6

-- its field k, from 0 on: offset in the record and type number
unfoldable pub field_at : List ℕ → ℕ → ℕ → Field
field_at list p k = record { offset = field list (p + 12 + 6 * k) 4; ty = field list (p + 16 + 6 * k) 2 }

-- a position that is reached from the start over whole descriptors, of 12 bytes or more
pub data WholeTo (list : List ℕ) : ℕ → Type 0 where
  start : WholeTo list 0
  over :
      (p : ℕ) → WholeTo list p → p + 12 ≤ length list → 12 ≤ length_at list p → p + length_at list p ≤ length list
      → WholeTo list (p + length_at list p)

-- the first descriptor of the type from p on and before `end`, in at most so many steps
unfoldable pub look_up_in : ℕ → List ℕ → ℕ → ℕ → ℕ → Option ℕ
look_up_in zero list end type p = None
look_up_in (suc steps) list end type p =
    elim (ltb p end) [
      | false ↦ None
      | true ↦ elim (eqb (type_at list p) type) [
        | true ↦ Some p
        | false ↦ look_up_in steps list end type (p + length_at list p)
      ]
    ]

-- the descriptor of the type among those before `end`; each has 12 bytes or more, so that the steps are never used up
unfoldable pub look_up : List ℕ → ℕ → ℕ → Option ℕ
look_up list end type = look_up_in (suc end) list end type 0

-- there is none
abbrev pub is_nowhere : Option ℕ → Bool
is_nowhere (Some q) = false
is_nowhere None = true

-- where so many bytes from `offset` on end, if they start at or after `from` and fit inside `size`
abbrev pub end_within : ℕ → ℕ → ℕ → ℕ → Option ℕ
end_within from size offset extent = cond (leb from offset && leb (offset + extent) size) (Some (offset + extent)) None

-- where a field of the descriptor at p ends, if it names an earlier type, starts at or after `from`, and fits inside its record's size
unfoldable pub field_end : List ℕ → ℕ → ℕ → Field → Option ℕ
field_end list p from d =
    elim (look_up list p d.ty) [
      | None ↦ None
      | Some q ↦ end_within from (size_at list p) d.offset (size_at list q)
    ]

-- n fields, from field k on, are good: the first starts at or after `from`, and each other one at or after the end of the field before it
unfoldable pub good_fields_in : ℕ → List ℕ → ℕ → ℕ → ℕ → Bool
good_fields_in zero list p from k = true
good_fields_in (suc n) list p from k =
    elim (field_end list p from (field_at list p k)) [ None ↦ false | Some end ↦ good_fields_in n list p end (suc k) ]

-- the length that the kind asks for: 12, or for a record 12 and whole fields
abbrev pub good_shape : Descriptor → Bool
good_shape d = cond (eqb d.kind 4) (eqb d.length 12) (eqb d.kind 5 && (leb 12 d.length && eqb ((d.length - 12) % 6) 0))

-- the descriptor at p is not cut short, its kind and length are good, and its size is not 0
abbrev pub good_head : List ℕ → ℕ → Bool
good_head list p =
    leb (p + 12) (length list) && (leb (p + length_at list p) (length list) && (good_shape (descriptor_at list p) && ltb 0 (size_at list p)))

-- it is good: so is its head, its type is not described before it, and its fields are good
unfoldable pub good_descriptor : List ℕ → ℕ → Bool
good_descriptor list p =
    elim (good_head list p) [
      | false ↦ false
      | true ↦ is_nowhere (look_up list p (type_at list p)) && good_fields_in (field_count list p) list p 0 0
    ]

-- every descriptor from p on is good, in at most so many steps
unfoldable pub good_from_in : ℕ → List ℕ → ℕ → Bool
good_from_in zero list p = false
good_from_in (suc steps) list p =
    elim (eqb p (length list)) [
      | true ↦ true
      | false ↦ elim (good_descriptor list p) [ false ↦ false | true ↦ good_from_in steps list (p + length_at list p) ]
    ]

-- the list passes row 24: every descriptor on it is good
unfoldable pub good_list : List ℕ → Bool
good_list list = good_from_in (suc (length list)) list 0

-- a descriptor of a good list stands at p
pub record Stands (list : List ℕ) (p : ℕ) : Type 0 where
  pub good : good_list list ≡ true
  pub whole : WholeTo list p
  pub inside : p < length list
