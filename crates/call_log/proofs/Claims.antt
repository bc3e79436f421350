-- The claims of logs. A record is read back field by field, each behind the one before it; a log, record by record. Assumes nothing.
use Rattle.std.proofs.Common.{ℕ, ◌+◌, ◌-◌, ◌^◌, ◌<◌, ◌≡◌, refl, true, List, [], ◌∷◌, ◌++◌, length, take, drop, ltb, pos, negsuc, Option, Some, None, Ok, Err, sym, ap, ◌∙◌, append_assoc, append-nil, add-zero, arith, length-append, length-drop, take_at, drop_at, drop-drop, ltb-true, le-leb}
use Rattle.block.specs.Bytes.{encode, decode, field}
use Rattle.block.specs.laws.Booleans.{and_left, and_right}
use Rattle.block.specs.laws.Fields.{length-encode, decode-encode, field_bytes_lem}
use Rattle.call_log.specs.Records.{kind_of, record_length, signed, call_at, good_value, next_at, Records, records_from, records}
use Rattle.call_log.specs.Run.{answers, run_of}
use Rattle.call_log.specs.Text.{answer_lines, printed}
use Rattle.call_log.specs.Written.{Field, encode_all, all_fit, unsigned, fields_of, record_of, log_of, in_range, recordable, all_recordable}
use Rattle.call_log.specs.Claims.{RecordsReadBack, LogsReadBack, PrintsAnswers}
use Rattle.call_log.specs.laws.Records.{next-end, records-next}
use Rattle.call_log.specs.laws.Written.{measured, length_record, record_parts}
use Rattle.call_log.specs.declared.record.Call.{Call}
use Rattle.call_log.specs.declared.record.Call.TheVariants.{Allocate, Free, Move, Load, Store, Fill, Copy}
use Rattle.call_log.specs.declared.record.Fault.{Fault}
use Rattle.call_log.proofs.Exact.{log_exact}
use Rattle.call_log.proofs.Reading.{signed_low, signed_high, not_cut, well_formed_lem}

-- Fields.

-- the fields from k bytes behind `at` on are read
Behind : List ℕ → ℕ → ℕ → List Field → Type 0
Behind log at k [] = Unit {0}
Behind log at k (f ∷ fs) = (field log (at + k) f.0 ≡ f.1) × Behind log at (k + f.0) fs

-- the fields from `at` on are read
Read : List ℕ → ℕ → List Field → Type 0
Read log at [] = Unit {0}
Read log at (f ∷ fs) = (field log at f.0 ≡ f.1) × Behind log at f.0 fs

-- a field is read where it stands, and the next stands behind it
module _ (log : List ℕ) (at w v : ℕ) (behind : List ℕ) (stands : drop at log ≡ encode w v ++ behind) where
  field-read : v < 256 ^ w → field log at w ≡ v
  field-read l =
      field_bytes_lem log at w ∙ ap (λ (x : List ℕ). decode (take w x)) stands ∙ ap decode (take_at (encode w v) behind w (length-encode w v)) ∙ decode-encode w v l

  next_stands : (n : ℕ) → at + w ≡ n → drop n log ≡ behind
  next_stands n e = ap (λ (m : ℕ). drop m log) (sym e) ∙ sym (drop-drop w at log) ∙ ap (drop w) stands ∙ drop_at (encode w v) behind w (length-encode w v)

fields-behind : (log : List ℕ) (at k : ℕ) (fs : List Field) (behind : List ℕ) → all_fit fs ≡ true → drop (at + k) log ≡ encode_all fs ++ behind → Behind log at k fs
unfolding all_fit encode_all Behind
fields-behind log at k [] behind a e = tt
fields-behind log at k (f ∷ fs) behind a e =
    let stands = e ∙ append_assoc (encode f.0 f.1) (encode_all fs) behind in (
      field-read log (at + k) f.0 f.1 _ stands (ltb-true _ _ (and_left _ (all_fit fs) a)),
      fields-behind log at (k + f.0) fs behind (and_right (ltb f.1 (256 ^ f.0)) _ a) (next_stands log (at + k) f.0 f.1 _ stands (at + (k + f.0)) (omega arith)),
    )

fields_read : (log : List ℕ) (at : ℕ) (fs : List Field) (behind : List ℕ) → all_fit fs ≡ true → drop at log ≡ encode_all fs ++ behind → Read log at fs
unfolding all_fit encode_all Read
fields_read log at [] behind a e = tt
fields_read log at (f ∷ fs) behind a e =
    let stands = e ∙ append_assoc (encode f.0 f.1) (encode_all fs) behind in (
      field-read log at f.0 f.1 _ stands (ltb-true _ _ (and_left _ (all_fit fs) a)),
      fields-behind log at f.0 fs behind (and_right (ltb f.1 (256 ^ f.0)) _ a) (next_stands log at f.0 f.1 _ stands _ refl),
    )

-- One record.

-- two's complement there and back, below zero
signed_back : (n : ℕ) → n < 2 ^ 63 → signed (2 ^ 64 - 1 - n) ≡ negsuc n
signed_back n l = signed_high (2 ^ 64 - 1 - n) (omega arith) ∙ ap negsuc (omega arith)

-- the call of the fields that are read
call_read : (log : List ℕ) (f : ℕ) (c : Call) → in_range c ≡ true → Read log f (fields_of c) → call_at log (kind_of c) f ≡ c
unfolding call_at fields_of Read Behind unsigned
call_read log f (Allocate size type) i (a, (b, _)) = rw (a, b) refl
call_read log f (Free p) i (a, _) = rw a refl
call_read log f (Move p (pos n)) i (a, (b, _)) = rw (a, b, signed_low n (ltb-true _ _ i)) refl
call_read log f (Move p (negsuc n)) i (a, (b, _)) = rw (a, b) (ap (Move p) (signed_back n (ltb-true _ _ i)))
call_read log f (Load p width) i (a, (b, _)) = rw (a, b) refl
call_read log f (Store p width v) i (a, (b, (c, _))) = rw (a, b, c) refl
call_read log f (Fill p n byte) i (a, (b, (c, _))) = rw (a, b, c) refl
call_read log f (Copy target source n) i (a, (b, (c, _))) = rw (a, b, c) refl

-- its fill value is a byte
value_read : (log : List ℕ) (f : ℕ) (c : Call) → in_range c ≡ true → Read log f (fields_of c) → good_value log (kind_of c) f ≡ true
unfolding good_value fields_of Read Behind
value_read log f (Allocate size type) i r = refl
value_read log f (Free p) i r = refl
value_read log f (Move p d) i r = refl
value_read log f (Load p width) i r = refl
value_read log f (Store p width v) i r = refl
value_read log f (Fill p n byte) i (a, (b, (c, _))) = let l : byte < 256 = ltb-true _ _ i in rw c (le-leb byte 255 (omega arith))
value_read log f (Copy target source n) i r = refl

pub records-read_back : RecordsReadBack
unfolding RecordsReadBack recordable record_of encode_all
records-read_back log at c behind ok e =
    let kind : ℕ = kind_of c in
    let len : ℕ = record_length kind in
    let fields : List ℕ = encode_all (fields_of c) in
    let range : in_range c ≡ true = and_right (all_fit (fields_of c)) _ ok in
    let m = measured c in
    let few = m.few in
    let at_length : drop at log ≡ encode 2 len ++ (encode 2 kind ++ (fields ++ behind)) = e ∙ record_parts c behind in
    let at-kind : drop (at + 2) log ≡ encode 2 kind ++ (fields ++ behind) = next_stands log at 2 len _ at_length (at + 2) refl in
    let at_fields : drop (at + 4) log ≡ fields ++ behind = next_stands log (at + 2) 2 kind _ at-kind (at + 4) (omega arith) in
    let r = fields_read log (at + 4) (fields_of c) behind (and_left _ (in_range c) ok) at_fields in
    let left : length log - at ≡ len + length behind =
    sym (length-drop at log) ∙ ap length e ∙ length-append (record_of c) behind ∙ ap (λ (n : ℕ). n + length behind) (length_record c) in
    not_cut log at len (sym (field-read log at 2 len _ at_length (omega arith))) (omega arith) (omega arith)
    ∙ ap Some
    (well_formed_lem log at len kind (field-read log (at + 2) 2 kind _ at-kind (omega (arith, m.high))) m.known refl (value_read log (at + 4) c range r))
    ∙ ap (λ (k : Call). Some (Ok (k, at + len))) (call_read log (at + 4) c range r)
    ∙ ap (λ (n : ℕ). Some (Ok (c, at + n))) (sym (length_record c))

-- All of a log.

-- calls, and then what a log holds from a position on
abbrev before : List Call → Records → Records
before cs r = record { calls = cs ++ r.calls; fault = r.fault }

-- the log of calls, wherever it stands
log_read : (log : List ℕ) (at : ℕ) (cs : List Call) (behind : List ℕ) → all_recordable cs ≡ true → drop at log ≡ log_of cs ++ behind
    → records_from log at ≡ before cs (records_from log (at + length (log_of cs)))
unfolding log_of all_recordable RecordsReadBack
log_read log at [] behind ok e = ap (records_from log) (sym (add-zero at))
log_read log at (c ∷ cs) behind ok e =
    let n : ℕ = at + length (record_of c) in
    let stands : drop at log ≡ record_of c ++ (log_of cs ++ behind) = e ∙ append_assoc (record_of c) (log_of cs) behind in
    let here : next_at log at ≡ Some (Ok (c, n)) = records-read_back log at c _ (and_left _ (all_recordable cs) ok) stands in
    let next : drop n log ≡ log_of cs ++ behind =
    sym (drop-drop (length (record_of c)) at log) ∙ ap (drop (length (record_of c))) stands ∙ drop_at (record_of c) _ (length (record_of c)) refl in
    let ends : n + length (log_of cs) ≡ at + length (record_of c ++ log_of cs) = simp length-append (omega arith) in
    records-next log at (Some (Ok (c, n))) here
    ∙ ap (before (c ∷ [])) (log_read log n cs behind (and_right (recordable c) _ ok) next)
    ∙ ap (λ (m : ℕ). before (c ∷ cs) (records_from log m)) ends

-- calls, and what stands behind their log
followed_log : (cs : List Call) (behind : List ℕ) → all_recordable cs ≡ true
    → records (log_of cs ++ behind) ≡ before cs (records_from (log_of cs ++ behind) (length (log_of cs)))
followed_log cs behind ok =
    let log : List ℕ = log_of cs ++ behind in
    log_read log 0 cs behind ok refl ∙ ap (λ (n : ℕ). before cs (records_from log n)) (omega arith)

-- calls, and a malformed record or none
abbrev holding : List Call → Option Fault → Records
holding cs f = record { calls = cs; fault = f }

whole_log : (cs : List Call) → all_recordable cs ≡ true → records (log_of cs) ≡ holding cs None
whole_log cs ok =
    let log : List ℕ = log_of cs ++ [] in
    ap records (sym (append-nil (log_of cs))) ∙ followed_log cs [] ok
    ∙ ap (before cs) (records-next log (length (log_of cs)) None (next-end log _ (rw (append-nil (log_of cs)) (omega arith))))
    ∙ ap (λ (l : List Call). holding l None) (append-nil cs)

broken_log : (cs : List Call) (behind : List ℕ) (f : Fault) → all_recordable cs ≡ true → next_at (log_of cs ++ behind) (length (log_of cs)) ≡ Some (Err f)
    → records (log_of cs ++ behind) ≡ holding cs (Some f)
broken_log cs behind f ok e =
    followed_log cs behind ok
    ∙ ap (before cs) (records-next (log_of cs ++ behind) (length (log_of cs)) (Some (Err f)) e)
    ∙ ap (λ (l : List Call). holding l (Some f)) (append-nil cs)

pub logs_read_back : LogsReadBack
logs_read_back = record { whole = whole_log; followed = followed_log; exact = log_exact }

pub prints_answers : PrintsAnswers
unfolding printed
prints_answers = record {
  every = λ log x. refl;
  whole = λ cs x ok. ap (λ (r : Records). printed (run_of r x)) (whole_log cs ok) ∙ append-nil (answer_lines (answers cs x));
  malformed = λ cs behind f x ok e. ap (λ (r : Records). printed (run_of r x)) (broken_log cs behind f ok e);
}
