-- Every log of bytes is the log of its calls, with nothing behind it or a malformed record: a record that is read is that of its call, byte for byte.
-- Assumes nothing.
use Rattle.std.proofs.Common.{ℕ, zero, suc, ◌+◌, ◌-◌, ◌^◌, ◌≤◌, ◌<◌, ◌≡◌, refl, List, [], ◌∷◌, ◌++◌, length, drop, ltb, Some, None, Ok, Err, sym, ap, ◌∙◌, subst, append_assoc, add-zero, arith, length-append, length-drop, drop_of_length-le, ltb-true, ltb-false}
use Rattle.block.specs.Bytes.{encode, field, Bytes}
use Rattle.block.specs.laws.Booleans.{by_bool}
use Rattle.block.specs.laws.Fields.{field_bound, field_stands}
use Rattle.call_log.specs.Records.{kind_number, kind_of, field_bytes, record_length, signed, call_at, Next, next_at, Records, records_from}
use Rattle.call_log.specs.Written.{Field, encode_all, unsigned, fields_of, record_of, log_of}
use Rattle.call_log.specs.Claims.{Exact}
use Rattle.call_log.specs.laws.Records.{kind_with, Formed, next_formed, next-behind, end_past, records-next}
use Rattle.call_log.specs.laws.Written.{record_parts}
use Rattle.call_log.specs.declared.record.Call.{Call}
use Rattle.call_log.specs.declared.record.Fault.{Fault}
use Rattle.call_log.specs.declared.record.Kind.{Kind}
use Rattle.call_log.specs.declared.record.Kind.TheVariants as kind
use Rattle.call_log.proofs.Reading.{signed_low, signed_high}

-- two's complement back and there
unsigned_back : (n : ℕ) → n < 2 ^ 64 → unsigned (signed n) ≡ n
unfolding unsigned
unsigned_back n l =
    by_bool (ltb n (2 ^ 63))
    (λ t. rw (signed_low n (ltb-true _ _ t)) refl)
    (λ t. rw (signed_high n (ltb-false _ _ t)) (omega arith))

-- Fields of some widths.

-- their bytes
total : List ℕ → ℕ
total [] = 0
total (w ∷ ws) = w + total ws

-- what is read from k bytes behind `at` on
behind_at : List ℕ → ℕ → ℕ → List ℕ → List Field
behind_at log at k [] = []
behind_at log at k (w ∷ ws) = (w, field log (at + k) w) ∷ behind_at log at (k + w) ws

-- what is read from `at` on
fields_at : List ℕ → ℕ → List ℕ → List Field
fields_at log at [] = []
fields_at log at (w ∷ ws) = (w, field log at w) ∷ behind_at log at w ws

module _ (log : List ℕ) (bytes : Bytes log) where
  -- a number stands where it is read, in front of what stands behind it
  number_stands :
      (at w v n : ℕ) (behind : List ℕ) → field log at w ≡ v → at + w ≡ n → n ≤ length log → drop n log ≡ behind → drop at log ≡ encode w v ++ behind
  number_stands at w v n behind is e l b =
      field_stands log bytes w at (omega arith)
      ∙ ap (λ (m : ℕ). encode w m ++ drop (at + w) log) is ∙ ap (λ (m : ℕ). encode w v ++ drop m log) e ∙ ap (λ (r : List ℕ). encode w v ++ r) b

  -- and so do those of some widths
  behind_stand :
      (at k : ℕ) (ws : List ℕ) (n : ℕ) → at + k + total ws ≡ n → n ≤ length log → drop (at + k) log ≡ encode_all (behind_at log at k ws) ++ drop n log
  unfolding total behind_at encode_all
  behind_stand at k [] n e l = let here : at + k ≡ n = omega arith in ap (λ (m : ℕ). drop m log) here
  behind_stand at k (w ∷ ws) n e l =
      let v : ℕ = field log (at + k) w in
      number_stands (at + k) w v (at + (k + w)) _ refl (omega arith) (omega arith) (behind_stand at (k + w) ws n (omega arith) l)
      ∙ sym (append_assoc (encode w v) (encode_all (behind_at log at (k + w) ws)) (drop n log))

  fields_stand : (at : ℕ) (ws : List ℕ) (n : ℕ) → at + total ws ≡ n → n ≤ length log → drop at log ≡ encode_all (fields_at log at ws) ++ drop n log
  unfolding total fields_at encode_all
  fields_stand at [] n e l = let here : at ≡ n = omega arith in ap (λ (m : ℕ). drop m log) here
  fields_stand at (w ∷ ws) n e l =
      let v : ℕ = field log at w in
      number_stands at w v (at + w) _ refl refl (omega arith) (behind_stand at w ws n (omega arith) l)
      ∙ sym (append_assoc (encode w v) (encode_all (behind_at log at w ws)) (drop n log))

  -- One record.

  -- the call of a kind has that kind, and the fields that are read
  record Laid (f kind : ℕ) : Type 0 where
    is_kind : kind_of (call_at log kind f) ≡ kind
    widths : List ℕ
    long : total widths ≡ field_bytes kind
    fields : fields_of (call_at log kind f) ≡ fields_at log f widths

  laid : (f : ℕ) (k : Kind) → Laid f (kind_number k)
  unfolding call_at fields_of field_bytes total fields_at behind_at
  laid f kind.Allocate = record { is_kind = refl; widths = 4 ∷ 2 ∷ []; long = refl; fields = refl }
  laid f kind.Free = record { is_kind = refl; widths = 8 ∷ []; long = refl; fields = refl }
  laid f kind.Move =
      let distance = unsigned_back (field log (f + 8) 8) (field_bound log bytes 8 (f + 8)) in
      record { is_kind = refl; widths = 8 ∷ 8 ∷ []; long = refl; fields = rw distance refl }
  laid f kind.Load = record { is_kind = refl; widths = 8 ∷ 2 ∷ []; long = refl; fields = refl }
  laid f kind.Store = record { is_kind = refl; widths = 8 ∷ 2 ∷ 8 ∷ []; long = refl; fields = refl }
  laid f kind.Fill = record { is_kind = refl; widths = 8 ∷ 4 ∷ 2 ∷ []; long = refl; fields = refl }
  laid f kind.Copy = record { is_kind = refl; widths = 8 ∷ 8 ∷ 4 ∷ []; long = refl; fields = refl }

  -- a record that is read is that of its call
  record_stands : (at : ℕ) (c : Call) (n : ℕ) → Formed log at c n → drop at log ≡ record_of c ++ drop n log
  record_stands at c n r =
      let kind : ℕ = r.kind in
      let ends = r.ends in
      let inside = r.inside in
      let (k, is) = kind_with kind r.known in
      let l : Laid (at + 4) kind = subst (Laid (at + 4)) is (laid (at + 4) k) in
      let behind : List ℕ = encode_all (fields_of c) ++ drop n log in
      let at_fields : drop (at + 4) log ≡ behind =
      fields_stand (at + 4) l.widths n (omega (arith, l.long)) inside
      ∙ ap (λ (fs : List Field). encode_all fs ++ drop n log) (sym l.fields ∙ ap fields_of r.is_call) in
      let at-kind : drop (at + 2) log ≡ encode 2 kind ++ behind = number_stands (at + 2) 2 kind (at + 4) behind r.is_kind (omega arith) (omega arith) at_fields in
      number_stands at 2 (record_length kind) (at + 2) _ r.is_length refl (omega arith) at-kind
      ∙ ap (λ (k : ℕ). encode 2 (record_length k) ++ (encode 2 k ++ behind)) (sym l.is_kind ∙ ap kind_of r.is_call)
      ∙ sym (record_parts c (drop n log))

  -- All of a log.

  -- from a position on
  record ExactFrom (at : ℕ) : Type 0 where
    behind : List ℕ
    is : drop at log ≡ log_of (records_from log at).calls ++ behind
    whole : (records_from log at).fault ≡ None → behind ≡ []
    malformed : (f : Fault) → (records_from log at).fault ≡ Some f → next_at log (at + length (log_of (records_from log at).calls)) ≡ Some (Err f)

  exact_at : (at : ℕ) (next : Next) → next_at log at ≡ next → ((n : ℕ) → at < n → n ≤ length log → ExactFrom n) → ExactFrom at
  unfolding log_of
  exact_at at None e rest = record {
    behind = drop at log;
    is = rw (records-next log at None e) refl;
    whole = λ z. drop_of_length-le log (end_past log at e);
    malformed = λ f z. let y = sym z ∙ ap (λ (r : Records). r.fault) (records-next log at None e) in cc;
  }
  exact_at at (Some (Err f)) e rest =
      let holds = records-next log at (Some (Err f)) e in
      let fault : (records_from log at).fault ≡ Some f = ap (λ (r : Records). r.fault) holds in record {
        behind = drop at log;
        is = rw holds refl;
        whole = λ z. absurd (cc);
        malformed = λ g z.
            let same : f ≡ g = cc in
            rw holds (rw (add-zero at) (e ∙ ap (λ (h : Fault). Some (Err h)) same));
      }
  exact_at at (Some (Ok (c, n))) e rest =
      let (later, inside) = next-behind log at c n e in
      let r = rest n (omega arith) inside in
      let holds = records-next log at (Some (Ok (c, n))) e in
      let fault : (records_from log at).fault ≡ (records_from log n).fault = ap (λ (s : Records). s.fault) holds in
      let calls : List Call = (records_from log n).calls in
      let stands : drop at log ≡ record_of c ++ drop n log = record_stands at c n (next_formed log at c n e) in
      let long : length log - at ≡ length (record_of c) + (length log - n) =
      sym (length-drop at log) ∙ ap length stands ∙ length-append (record_of c) (drop n log) ∙ ap (λ (m : ℕ). length (record_of c) + m) (length-drop n log) in
      let ends : at + length (record_of c ++ log_of calls) ≡ n + length (log_of calls) = simp length-append (omega arith) in record {
        behind = r.behind;
        is =
            stands ∙ ap (λ (t : List ℕ). record_of c ++ t) r.is
            ∙ sym (append_assoc (record_of c) (log_of calls) r.behind) ∙ ap (λ (s : Records). log_of s.calls ++ r.behind) (sym holds);
        whole = λ z. r.whole (sym fault ∙ z);
        malformed = λ f z. ap (λ (s : Records). next_at log (at + length (log_of s.calls))) holds ∙ ap (next_at log) ends ∙ r.malformed f (sym fault ∙ z);
      }

  exact_from : (steps at : ℕ) → length log < at + steps → at ≤ length log → ExactFrom at
  exact_from zero at p l = absurd (omega arith)
  exact_from (suc steps) at p l = exact_at at (next_at log at) refl (λ n m k. exact_from steps n (omega arith) k)

pub log_exact : (log : List ℕ) → Bytes log → Exact log
log_exact log bytes =
    let r = exact_from log bytes (suc (length log)) 0 (omega arith) (omega arith) in
    let begins : 0 + length (log_of (records_from log 0).calls) ≡ length (log_of (records_from log 0).calls) = omega arith in
    record { behind = r.behind; is = r.is; whole = r.whole; malformed = λ f z. ap (next_at log) (sym begins) ∙ r.malformed f z }
