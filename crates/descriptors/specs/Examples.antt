-- Worked examples, computed: a record of records, and each case of row 24. Assumes nothing.
use Rattle.std.specs.Prelude.{ℕ, zero, suc, ◌+◌, ◌≤◌, ◌≡◌, refl, Bool, true, false, not, cond, ◌&&◌, List, [], ◌∷◌, ◌++◌, T, length, take}
use Rattle.std.proofs.Common.{arith}
use Rattle.block.specs.Bytes.{encode, decode, field}
use Rattle.block.specs.laws.Booleans.{true_false}
use Rattle.descriptors.specs.Descriptors.{descriptor_at, size_at, field_at, look_up_in, look_up, field_end, good_fields_in, good_descriptor, good_from_in, good_list}
use Rattle.descriptors.specs.Layouts.{any_below, field_has, type_has_in, type_has}
use Rattle.descriptors.specs.Claims.{first, next, Describes, SomeBad, RefusesBad, Has, AnswersHas, EndsBeforeSize}

-- the bytes of a descriptor, of any length, kind, type number and size
unfoldable pub descriptor : ℕ → ℕ → ℕ → ℕ → List ℕ
descriptor len kind type size = encode 4 len ++ (encode 2 kind ++ (encode 2 type ++ encode 4 size))

-- of a plain type
abbrev pub plain : ℕ → ℕ → List ℕ
plain type size = descriptor 12 4 type size

-- of a record with the bytes of its fields
abbrev pub record_of : ℕ → ℕ → List ℕ → List ℕ
record_of type size fields = descriptor (12 + length fields) 5 type size ++ fields

-- the bytes of a field
unfoldable pub at : ℕ → ℕ → List ℕ
at offset type = encode 4 offset ++ encode 2 type

-- A sample of a load cell (type 3, 12 bytes, described at 24) has a number of 4 bytes (type 1) at 0 and at 8, and one of 2 bytes (type 2) at 4. A load buffer
-- (type 4, 30 bytes, described at 54) has a sample at 4, and a second one right behind it.
unfoldable pub winch : List ℕ
winch =
    plain 1 4 ++ (plain 2 2 ++ (record_of 3 12 (at 0 1 ++ (at 4 2 ++ at 8 1)) ++ record_of 4 30 (at 4 3 ++ at 16 3)))

-- its bytes, as they are laid
pub laid :
    winch
    ≡ 12 ∷ 0 ∷ 0 ∷ 0 ∷ 4 ∷ 0 ∷ 1 ∷ 0 ∷ 4 ∷ 0 ∷ 0 ∷ 0 ∷ 12 ∷ 0 ∷ 0 ∷ 0 ∷ 4 ∷ 0 ∷ 2 ∷ 0 ∷ 2 ∷ 0 ∷ 0 ∷ 0
    ∷ 30 ∷ 0 ∷ 0 ∷ 0 ∷ 5 ∷ 0 ∷ 3 ∷ 0 ∷ 12 ∷ 0 ∷ 0 ∷ 0 ∷ 0 ∷ 0 ∷ 0 ∷ 0 ∷ 1 ∷ 0 ∷ 4 ∷ 0 ∷ 0 ∷ 0 ∷ 2 ∷ 0 ∷ 8 ∷ 0 ∷ 0 ∷ 0 ∷ 1 ∷ 0
    ∷ 24 ∷ 0 ∷ 0 ∷ 0 ∷ 5 ∷ 0 ∷ 4 ∷ 0 ∷ 30 ∷ 0 ∷ 0 ∷ 0 ∷ 4 ∷ 0 ∷ 0 ∷ 0 ∷ 3 ∷ 0 ∷ 16 ∷ 0 ∷ 0 ∷ 0 ∷ 3 ∷ 0 ∷ []
unfolding winch descriptor at encode
laid = refl

-- Each byte of a descriptor and of its second field is read in its place.
pub bytes : List ℕ
bytes =
    0 ∷ 0x11 ∷ 0x22 ∷ 0x33 ∷ 0x44 ∷ 0x55 ∷ 0x66 ∷ 0x77 ∷ 0x88 ∷ 0x99 ∷ 0xAA ∷ 0xBB ∷ 0xCC
    ∷ 1 ∷ 2 ∷ 3 ∷ 4 ∷ 5 ∷ 6 ∷ 0xD1 ∷ 0xD2 ∷ 0xD3 ∷ 0xD4 ∷ 0xE1 ∷ 0xE2 ∷ 0 ∷ []

pub read :
    (descriptor_at bytes 1 ≡ record { length = 0x44332211; kind = 0x6655; ty = 0x8877; size = 0xCCBBAA99 })
    × (field_at bytes 1 0 ≡ record { offset = 0x04030201; ty = 0x0605 })
    × (field_at bytes 1 1 ≡ record { offset = 0xD4D3D2D1; ty = 0xE2E1 })
unfolding bytes decode field descriptor_at field_at
read = (refl, refl, refl)

-- the offsets below n at which the load buffer has a type
pub offsets : ℕ → ℕ → List ℕ
offsets wanted zero = []
offsets wanted (suc n) = offsets wanted n ++ cond (type_has winch wanted 54 n) (n ∷ []) []

-- In its 30 bytes and the two behind them it has itself at 0; samples at 4 and at 16, where the first one ends; 4 bytes at 4, 12, 16 and 24; 2 bytes at 8 and
-- 20. So it has nothing in between, behind the last field, or past its end; and nothing of a type that is not listed.
pub winch_has :
    (offsets 4 32 ≡ 0 ∷ []) × (offsets 3 32 ≡ 4 ∷ 16 ∷ []) × (offsets 1 32 ≡ 4 ∷ 12 ∷ 16 ∷ 24 ∷ []) × (offsets 2 32 ≡ 8 ∷ 20 ∷ []) × (offsets 9 32 ≡ [])
unfolding winch descriptor at encode decode field offsets descriptor_at field_at look_up_in look_up any_below field_has type_has_in type_has
winch_has = (refl, refl, refl, refl, refl)

-- Lists that pass: none at all, a record without fields, a field that fills its record, fields that meet, and types that have a byte in common.
pub passing :
    T (good_list [])
    × T (good_list winch)
    × T (good_list (record_of 0 1 []))
    × T (good_list (plain 65535 0xFFFFFFFF ++ record_of 0 0xFFFFFFFF (at 0 65535)))
    × T (good_list (plain 7 1 ++ record_of 0 0xFFFFFFFF (at 0xFFFFFFFD 7 ++ at 0xFFFFFFFE 7)))
    × T (good_list (plain 1 4 ++ plain 257 0x01000000))
unfolding winch descriptor at encode decode field descriptor_at field_at look_up_in look_up field_end good_fields_in good_descriptor good_from_in good_list
passing = (tt, tt, tt, tt, tt, tt)

-- whether row 24 refuses each of these
pub refused : List (List ℕ) → Bool
refused [] = true
refused (l ∷ ls) = not (good_list l) && refused ls

-- Each case of row 24 alone: the list behind `winch`, or a descriptor of its own.
pub cases : List (List ℕ)
cases =
    -- cut short: of 12 bytes, of its length, of a second one
    take 11 (plain 1 4)
    ∷ (12 ∷ [])
    ∷ (winch ++ (0 ∷ []))
    ∷ take 77 winch
    ∷ descriptor 18 5 1 4
    ∷ descriptor 0xFFFFFFFC 5 1 4
    ∷ descriptor 0x1000C 4 1 4
    ∷ descriptor 0x0100000C 4 1 4
    -- a kind that is unknown
    ∷ descriptor 12 0 1 4
    ∷ descriptor 12 3 1 4
    ∷ descriptor 12 6 1 4
    ∷ descriptor 12 65535 1 4
    ∷ descriptor 12 0x0104 1 4
    -- a size of 0
    ∷ plain 1 0
    ∷ record_of 1 0 []
    -- a length that is not 12, or not 12 and whole fields
    ∷ (plain 1 4 ++ (descriptor 18 4 2 4 ++ at 0 1))
    ∷ descriptor 11 4 1 4
    ∷ descriptor 0 4 1 4
    ∷ descriptor 0 5 1 4
    ∷ descriptor 6 5 1 4
    -- the second one would stand in the first
    ∷ (descriptor 6 5 12 0x40000 ++ (encode 2 1 ++ encode 4 4))
    ∷ (winch ++ (descriptor 13 5 9 4 ++ (0 ∷ [])))
    ∷ (winch ++ (descriptor 17 5 9 4 ++ take 5 (at 0 1)))
    -- a type that is described before
    ∷ (winch ++ plain 3 4)
    ∷ (plain 5 1 ++ plain 5 1)
    -- a field of no earlier type: none, its own, a later one
    ∷ (winch ++ record_of 9 8 (at 0 8))
    ∷ (winch ++ record_of 9 8 (at 0 9))
    ∷ (record_of 9 8 (at 0 1) ++ plain 1 4)
    -- a field that starts before the end of the one before it
    ∷ (winch ++ record_of 9 30 (at 0 1 ++ at 3 1))
    ∷ (winch ++ record_of 9 30 (at 4 1 ++ at 0 1))
    ∷ (winch ++ record_of 9 30 (at 0 2 ++ (at 4 3 ++ at 15 2)))
    -- a field that ends past its record
    ∷ (winch ++ record_of 9 3 (at 0 1))
    ∷ (winch ++ record_of 9 30 (at 19 3))
    ∷ (plain 7 1 ++ record_of 9 0xFFFFFFFF (at 0xFFFFFFFF 7))
    ∷ (plain 7 0xFFFFFFFF ++ record_of 9 0xFFFFFFFF (at 0xFFFFFFFF 7))
    ∷ []

pub refusing : T (refused cases)
unfolding refused cases winch descriptor at encode decode field descriptor_at field_at look_up_in look_up field_end good_fields_in good_descriptor good_from_in good_list
refusing = tt

-- The load buffer is described at 54.
pub buffer-described : Describes winch (length winch) 4 54
unfolding winch descriptor at encode decode field descriptor_at
buffer-described =
    record { boundary = next 24 (next 12 (next 0 first (omega arith)) (omega arith)) (omega arith); before = omega arith; type_is = refl }

-- what is computed of it, and of a list that is cut short
computed : (type_has winch 1 54 24 ≡ true) × (type_has winch 1 54 10 ≡ false) × (size_at winch 54 ≡ 30) × (good_list (12 ∷ []) ≡ false)
unfolding winch descriptor at encode decode field descriptor_at field_at look_up_in look_up any_below field_has type_has_in type_has good_descriptor good_from_in good_list
computed = (refl, refl, refl, refl)

-- What the claims say then: 4 bytes stand at 24, and none at 10; nothing of any type stands at 30 or behind it; and the list that is cut short has a bad
-- descriptor.
pub claimed : RefusesBad → AnswersHas → EndsBeforeSize → good_list winch ≡ true
    → Has winch 4 1 24 × (Has winch 4 1 10 → ⊥) × ((wanted o : ℕ) → 30 ≤ o → Has winch 4 wanted o → ⊥) × (SomeBad winch → ⊥) × SomeBad (12 ∷ [])
unfolding AnswersHas EndsBeforeSize
claimed refuses answers ends good = (
  (answers winch good 4 54 1 24 buffer-described).0 computed.0,
  (λ h. true_false ((answers winch good 4 54 1 10 buffer-described).1 h) computed.1),
  (λ wanted o l h. omega (arith, ends winch good 4 54 wanted o buffer-described h, computed.2)),
  (refuses.passed winch).0 good,
  (refuses.refused (12 ∷ [])).0 computed.3,
)
