-- The record of a call, and the log of calls: what the reader has to read back. Assumes nothing.
use Rattle.std.specs.Prelude.{ℕ, ◌-◌, ◌^◌, Bool, true, ◌&&◌, List, [], ◌∷◌, ◌++◌, ltb, ℤ, pos, negsuc}
use Rattle.block.specs.Bytes.{encode}
use Rattle.call_log.specs.Records.{kind_of, record_length}
use Rattle.call_log.specs.declared.record.Call.{Call}
use Rattle.call_log.specs.declared.record.Call.TheVariants.{Allocate, Free, Move, Load, Store, Fill, Copy}

-- A field: its width in bytes, and its number.
abbrev pub Field : Type 0
Field = ℕ × ℕ

-- the bytes of fields
unfoldable pub encode_all : List Field → List ℕ
encode_all [] = []
encode_all (f ∷ fs) = encode f.0 f.1 ++ encode_all fs

-- each number fits its width
unfoldable pub all_fit : List Field → Bool
all_fit [] = true
all_fit (f ∷ fs) = ltb f.1 (256 ^ f.0) && all_fit fs

-- the 64 bits of a signed number, in two's complement
unfoldable pub unsigned : ℤ → ℕ
unsigned (pos n) = n
unsigned (negsuc n) = 2 ^ 64 - 1 - n

-- the fields of a call's record
unfoldable pub fields_of : Call → List Field
fields_of (Allocate size type) = (4, size) ∷ (2, type) ∷ []
fields_of (Free p) = (8, p) ∷ []
fields_of (Move p d) = (8, p) ∷ (8, unsigned d) ∷ []
fields_of (Load p width) = (8, p) ∷ (2, width) ∷ []
fields_of (Store p width v) = (8, p) ∷ (2, width) ∷ (8, v) ∷ []
fields_of (Fill p n byte) = (8, p) ∷ (4, n) ∷ (2, byte) ∷ []
fields_of (Copy target source n) = (8, target) ∷ (8, source) ∷ (4, n) ∷ []

-- its record
unfoldable pub record_of : Call → List ℕ
record_of c = encode_all ((2, record_length (kind_of c)) ∷ (2, kind_of c) ∷ fields_of c)

-- the log of calls
unfoldable pub log_of : List Call → List ℕ
log_of [] = []
log_of (c ∷ cs) = record_of c ++ log_of cs

-- what the width of a field does not say: a distance has 64 bits in two's complement, and a fill value is a byte
abbrev pub in_range : Call → Bool
in_range (Allocate size type) = true
in_range (Free p) = true
in_range (Move p (pos n)) = ltb n (2 ^ 63)
in_range (Move p (negsuc n)) = ltb n (2 ^ 63)
in_range (Load p width) = true
in_range (Store p width v) = true
in_range (Fill p n byte) = ltb byte 256
in_range (Copy target source n) = true

-- a record can hold the call
unfoldable pub recordable : Call → Bool
recordable c = all_fit (fields_of c) && in_range c

-- and so for each call of a list
unfoldable pub all_recordable : List Call → Bool
all_recordable [] = true
all_recordable (c ∷ cs) = recordable c && all_recordable cs
