-- The records of a call log, as they are read: document 02, W2. A record is its length (2 bytes, the whole record), its kind (2 bytes) and its fields;
-- all little-endian. Assumes nothing.
use Rattle.std.specs.Prelude.{ℕ, zero, suc, ◌+◌, ◌-◌, ◌^◌, ◌≡◌, Bool, false, cond, not, ◌&&◌, ◌||◌, List, [], ◌∷◌, length, leb, ltb, eqb, ℤ, pos, negsuc, Option, Some, None, Result, Ok, Err}
use Rattle.block.specs.Bytes.{field}
use Rattle.block.specs.Layout.{within}
use Rattle.call_log.specs.declared.record.Call.{Call}
use Rattle.call_log.specs.declared.record.Call.TheVariants.{Allocate, Free, Move, Load, Store, Fill, Copy}
use Rattle.call_log.specs.declared.record.Fault.{Fault}
use Rattle.call_log.specs.declared.record.Fault.TheVariants.{CutShort, UnknownKind, BadFields}
use Rattle.call_log.specs.declared.record.Kind.{Kind}
use Rattle.call_log.specs.declared.record.Kind.TheVariants as kind

-- document 02's number of a malformed record
abbrev pub fault_number : Fault → ℕ
fault_number CutShort = 17
fault_number UnknownKind = 18
fault_number BadFields = 19

-- One record.

-- the kinds that there are
abbrev pub known_kind : ℕ → Bool
known_kind kind = within 16 22 kind

-- the number of a kind
abbrev pub kind_number : Kind → ℕ
kind_number kind.Allocate = 16
kind_number kind.Free = 17
kind_number kind.Move = 18
kind_number kind.Load = 19
kind_number kind.Store = 20
kind_number kind.Fill = 21
kind_number kind.Copy = 22

-- the kind with a number; any other number is row 18
abbrev pub KindWith : ℕ → Result Kind Fault → Type 0
KindWith n (Ok k) = kind_number k ≡ n
KindWith n (Err f) = (known_kind n ≡ false) × (f ≡ UnknownKind)

-- the kind of a call's record
abbrev pub kind_of : Call → ℕ
kind_of (Allocate size type) = 16
kind_of (Free p) = 17
kind_of (Move p d) = 18
kind_of (Load p width) = 19
kind_of (Store p width v) = 20
kind_of (Fill p n byte) = 21
kind_of (Copy target source n) = 22

-- the bytes of a known kind's fields
unfoldable pub field_bytes : ℕ → ℕ
field_bytes kind =
    cond (eqb kind 16) (4 + 2)
    (cond (eqb kind 17) 8
    (cond (eqb kind 18) (8 + 8)
    (cond (eqb kind 19) (8 + 2)
    (cond (eqb kind 20) (8 + 2 + 8)
    (cond (eqb kind 21) (8 + 4 + 2)
    (8 + 8 + 4))))))

-- the bytes of its record: 4 more, for length and kind
abbrev pub record_length : ℕ → ℕ
record_length kind = 4 + field_bytes kind

-- the signed number that 64 bits are, in two's complement
unfoldable pub signed : ℕ → ℤ
signed n = cond (ltb n (2 ^ 63)) (pos n) (negsuc (2 ^ 64 - 1 - n))

-- the call of a known kind whose fields begin at f
unfoldable pub call_at : List ℕ → ℕ → ℕ → Call
call_at log kind f =
    cond (eqb kind 16) (Allocate (field log f 4) (field log (f + 4) 2))
    (cond (eqb kind 17) (Free (field log f 8))
    (cond (eqb kind 18) (Move (field log f 8) (signed (field log (f + 8) 8)))
    (cond (eqb kind 19) (Load (field log f 8) (field log (f + 8) 2))
    (cond (eqb kind 20) (Store (field log f 8) (field log (f + 8) 2) (field log (f + 10) 8))
    (cond (eqb kind 21) (Fill (field log f 8) (field log (f + 8) 4) (field log (f + 12) 2))
    (Copy (field log f 8) (field log (f + 8) 8) (field log (f + 16) 4)))))))

-- a fill value, in 2 bytes, is at most 255
unfoldable pub good_value : List ℕ → ℕ → ℕ → Bool
good_value log kind f = not (eqb kind 21) || leb (field log (f + 12) 2) 255

-- malformed with f where the test fails
abbrev pub insist : {A : Type 0} → Bool → Fault → Result A Fault → Result A Fault
insist ok f r = cond ok r (Err f)

-- 18 and 19, for a record of `len` bytes at `at`; its call, and the position behind it
unfoldable pub formed_at : List ℕ → ℕ → ℕ → Result (Call × ℕ) Fault
formed_at log at len =
    let kind : ℕ = field log (at + 2) 2 in
    insist (known_kind kind) UnknownKind
    (insist (eqb len (record_length kind) && good_value log kind (at + 4)) BadFields
    (Ok (call_at log kind (at + 4), at + len)))

-- What a log has at a position: nothing at its end; otherwise a call and the position behind its record, or why that record is malformed.
abbrev pub Next : Type 0
Next = Option (Result (Call × ℕ) Fault)

-- its end, or 17, 18, 19 in this order, or a record
unfoldable pub next_at : List ℕ → ℕ → Next
next_at log at =
    let left : ℕ = length log - at in
    let len : ℕ = field log at 2 in
    cond (eqb left 0) None
    (Some (insist (leb 4 left && (leb 4 len && leb len left)) CutShort
    (formed_at log at len)))

-- All of a log.

-- What a log holds: its calls in order, and the malformed record that it ends with, if any.
pub record Records : Type 0 where
  pub calls : List Call
  pub fault : Option Fault

-- what it holds from a position on, by what it has there and what it holds from further positions on
abbrev pub followed : Next → (ℕ → Records) → Records
followed None rest = record { calls = []; fault = None }
followed (Some (Err f)) rest = record { calls = []; fault = Some f }
followed (Some (Ok (c, next))) rest = record { calls = c ∷ (rest next).calls; fault = (rest next).fault }

-- at most `steps` records from `at` on
unfoldable pub records_in : ℕ → List ℕ → ℕ → Records
records_in zero log at = record { calls = []; fault = None }
records_in (suc steps) log at = followed (next_at log at) (records_in steps log)

-- what the log holds from `at` on; each record takes bytes, so that these steps are never used up (the law `records-next`)
unfoldable pub records_from : List ℕ → ℕ → Records
records_from log at = records_in (suc (length log)) log at

-- what the whole log holds
abbrev pub records : List ℕ → Records
records log = records_from log 0
