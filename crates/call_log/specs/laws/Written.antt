-- Laws of a call's record and of a log.
-- In order: kind and length; the parts; the bytes of an allocate, a free and a store, and that a record can hold them; the log of calls. Assumes nothing.
use Rattle.std.proofs.Common.{ℕ, ◌^◌, ◌≤◌, ◌<◌, ◌≡◌, refl, true, List, [], ◌∷◌, ◌++◌, length, ap, ◌∙◌, append_assoc, append-nil, arith, length-append, lt-ltb}
use Rattle.block.specs.Bytes.{encode}
use Rattle.block.specs.laws.Booleans.{and_both}
use Rattle.block.specs.laws.Fields.{length-encode}
use Rattle.call_log.specs.Records.{kind_of, known_kind, field_bytes, record_length}
use Rattle.call_log.specs.Written.{Field, encode_all, all_fit, fields_of, record_of, log_of, recordable, all_recordable}
use Rattle.call_log.specs.declared.record.Call.{Call}
use Rattle.call_log.specs.declared.record.Call.TheVariants.{Allocate, Free, Move, Load, Store, Fill, Copy}

-- Kind and length of a call's record.
pub record Measured (c : Call) : Type 0 where
  pub low : 16 ≤ kind_of c
  pub high : kind_of c ≤ 22
  pub known : known_kind (kind_of c) ≡ true
  pub few : field_bytes (kind_of c) ≤ 20
  pub long : length (encode_all (fields_of c)) ≡ field_bytes (kind_of c)

pub measured : (c : Call) → Measured c
unfolding fields_of encode_all field_bytes
measured (Allocate size type) = record { low = omega arith; high = omega arith; known = refl; few = omega arith; long = simp (length-append, length-encode) }
measured (Free p) = record { low = omega arith; high = omega arith; known = refl; few = omega arith; long = simp (length-append, length-encode) }
measured (Move p d) = record { low = omega arith; high = omega arith; known = refl; few = omega arith; long = simp (length-append, length-encode) }
measured (Load p width) = record { low = omega arith; high = omega arith; known = refl; few = omega arith; long = simp (length-append, length-encode) }
measured (Store p width v) = record { low = omega arith; high = omega arith; known = refl; few = omega arith; long = simp (length-append, length-encode) }
measured (Fill p n byte) = record { low = omega arith; high = omega arith; known = refl; few = omega arith; long = simp (length-append, length-encode) }
measured (Copy target source n) = record { low = omega arith; high = omega arith; known = refl; few = omega arith; long = simp (length-append, length-encode) }

-- it has the length of its kind
pub length_record : (c : Call) → length (record_of c) ≡ record_length (kind_of c)
unfolding record_of encode_all
length_record c = simp (length-append, length-encode, (measured c).long) (omega arith)

-- its length, its kind and its fields, one behind the other
pub record_parts :
    (c : Call) (behind : List ℕ)
    → record_of c ++ behind ≡ encode 2 (record_length (kind_of c)) ++ (encode 2 (kind_of c) ++ (encode_all (fields_of c) ++ behind))
unfolding record_of encode_all
record_parts c behind =
    let len : List ℕ = encode 2 (record_length (kind_of c)) in
    let kind : List ℕ = encode 2 (kind_of c) in
    append_assoc len (kind ++ encode_all (fields_of c)) behind ∙ ap (λ (y : List ℕ). len ++ y) (append_assoc kind (encode_all (fields_of c)) behind)

-- Three kinds, byte by byte.

-- the bytes of an allocate
pub allocate_record : (size type : ℕ) → record_of (Allocate size type) ≡ encode 2 10 ++ (encode 2 16 ++ (encode 4 size ++ encode 2 type))
unfolding record_of encode_all fields_of field_bytes
allocate_record size type = simp append-nil

-- of a free
pub free_record_lem : (p : ℕ) → record_of (Free p) ≡ encode 2 12 ++ (encode 2 17 ++ encode 8 p)
unfolding record_of encode_all fields_of field_bytes
free_record_lem p = simp append-nil

-- of a store
pub store_record : (p width v : ℕ) → record_of (Store p width v) ≡ encode 2 22 ++ (encode 2 20 ++ (encode 8 p ++ (encode 2 width ++ encode 8 v)))
unfolding record_of encode_all fields_of field_bytes
store_record p width v = simp append-nil

-- a field that fits
fits_first : (w v : ℕ) (fs : List Field) → v < 256 ^ w → all_fit fs ≡ true → all_fit ((w, v) ∷ fs) ≡ true
unfolding all_fit
fits_first w v fs l e = and_both _ _ (lt-ltb v (256 ^ w) l) e

fits_none : all_fit [] ≡ true
unfolding all_fit
fits_none = refl

-- a record can hold an allocate of 32 and 16 bits
pub allocate-recordable : (size type : ℕ) → size < 2 ^ 32 → type < 2 ^ 16 → recordable (Allocate size type) ≡ true
unfolding recordable fields_of
allocate-recordable size type l m = and_both _ _ (fits_first 4 size _ l (fits_first 2 type _ m fits_none)) refl

-- a free of a word
pub free-recordable : (p : ℕ) → p < 2 ^ 64 → recordable (Free p) ≡ true
unfolding recordable fields_of
free-recordable p l = and_both _ _ (fits_first 8 p _ l fits_none) refl

-- a store of a word at a word
pub store-recordable : (p width v : ℕ) → p < 2 ^ 64 → width < 2 ^ 16 → v < 2 ^ 64 → recordable (Store p width v) ≡ true
unfolding recordable fields_of
store-recordable p width v l m n = and_both _ _ (fits_first 8 p _ l (fits_first 2 width _ m (fits_first 8 v _ n fits_none))) refl

-- The log of calls.

pub log_none : log_of [] ≡ []
unfolding log_of
log_none = refl

pub log_first : (c : Call) (cs : List Call) → log_of (c ∷ cs) ≡ record_of c ++ log_of cs
unfolding log_of
log_first c cs = refl

pub all_recordable_none : all_recordable [] ≡ true
unfolding all_recordable
all_recordable_none = refl

pub all_recordable-first : (c : Call) (cs : List Call) → recordable c ≡ true → all_recordable cs ≡ true → all_recordable (c ∷ cs) ≡ true
unfolding all_recordable
all_recordable-first c cs p q = and_both _ _ p q
