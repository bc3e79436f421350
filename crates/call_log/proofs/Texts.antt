-- Text put into a buffer, piece by piece. In order: pieces; hexadecimal digits; decimal digits; the numbers of kinds, refusals and malformed records.
-- Assumes nothing.
use Rattle.std.proofs.Common.{ℕ, zero, suc, ◌+◌, ◌*◌, ◌/◌, ◌%◌, ◌^◌, ◌≤◌, ◌<◌, ◌≡◌, refl, List, [], ◌∷◌, ◌++◌, length, Err, Ok, sym, ap, ◌∙◌, subst, append_assoc, append-nil, mod-eq_of_lt, pow-suc, arith, length-append, lt-ltb, le-ltb}
use Rattle.std.specs.Result.{result_unwrap_or}
use denote.Enum.Declared.{tag_of}
use Rattle.std.proofs.lemmas.Nat.{pow-add}
use Rattle.block.specs.Bytes.{put}
use Rattle.block.specs.laws.Writes.{put_nil, put-append}
use Rattle.store.specs.State.{returned, value}
use Rattle.store.specs.laws.Refusals.{refusal_range}
use Rattle.store.specs.State.{Answer}
use Rattle.call_log.specs.Buffer.{Puts}
use Rattle.call_log.specs.Records.{kind_number, fault_number}
use Rattle.call_log.specs.Text.{digit, hexadecimal, decimal_in, decimal}
use Rattle.call_log.specs.contracts.record.Fault as fault
use Rattle.call_log.specs.contracts.record.Kind as kind
use Rattle.call_log.specs.declared.record.Fault.{Fault}
use Rattle.call_log.specs.declared.record.Fault.TheVariants.{CutShort, UnknownKind, BadFields}
use Rattle.call_log.specs.declared.record.Kind.{Kind}
use Rattle.call_log.specs.declared.record.Kind.TheVariants.{Allocate, Free, Move, Load, Store, Fill, Copy}
use Rattle.call_log.specs.declared.text.Text.{Text}

-- nothing put is a piece
pub puts_none : (s : Text) → Puts s [] s
puts_none s = record { text = sym (put_nil _ _); position = omega arith; same_length = refl; same_buffer = refl }

-- two pieces, one behind the other, are one
pub puts_next : {s t u : Text} {a b : List ℕ} → Puts s a t → Puts t b u → u.at ≤ length u.buffer.now → Puts s (a ++ b) u
puts_next {s} {t} {u} {a} {b} p q room = record {
  text =
      q.text ∙ ap (λ (x : List ℕ). put x t.at b) p.text
      ∙ put-append s.buffer.now s.at a b t.at (sym p.position) (omega (arith, p.same_length, q.same_length, q.position));
  position = q.position ∙ simp length-append (omega (arith, p.position));
  same_length = q.same_length ∙ p.same_length;
  same_buffer = q.same_buffer ∙ p.same_buffer;
}

-- Hexadecimal digits are put from the first to the last.

-- the digits of v are put, but for the last k
pub record Putting (s : Text) (v k : ℕ) (t : Text) : Type 0 where
  pub piece : List ℕ
  pub puts : Puts s piece t
  pub is : piece ++ hexadecimal k v ≡ hexadecimal 16 v
  pub count : length piece + k ≡ 16

pub length-hexadecimal : (k n : ℕ) → length (hexadecimal k n) ≡ k
unfolding hexadecimal
length-hexadecimal zero n = refl
length-hexadecimal (suc k) n = ap suc (length-hexadecimal k n)

-- none, and one more in front of the last k
none_left : (v : ℕ) → hexadecimal 0 v ≡ []
unfolding hexadecimal
none_left v = refl

power : (k : ℕ) → 2 ^ (4 * k) ≡ 16 ^ k
power zero = refl
power (suc k) =
    let four : 4 * suc k ≡ 4 + 4 * k = omega arith in
    ap (λ (n : ℕ). 2 ^ n) four ∙ pow-add 2 4 (4 * k) ∙ ap (λ (n : ℕ). 16 * n) (power k) ∙ omega (arith, pow-suc 16 k)

one_more : (v k d : ℕ) → d ≡ digit (v / 2 ^ (4 * k) % 16) → d ∷ hexadecimal k v ≡ hexadecimal (suc k) v
unfolding hexadecimal
one_more v k d e = ap (λ (x : ℕ). x ∷ hexadecimal k v) (e ∙ ap (λ (n : ℕ). digit (v / n % 16)) (power k))

-- at first none is put, and at last all are
pub none_put : (s : Text) (v : ℕ) → Putting s v 16 s
none_put s v = record { piece = []; puts = puts_none s; is = refl; count = refl }

pub all_put : {s t : Text} {v : ℕ} → Putting s v 0 t → Puts s (hexadecimal 16 v) t
all_put {s} {t} {v} p =
    let all : p.piece ≡ hexadecimal 16 v = sym (append-nil p.piece) ∙ ap (λ (x : List ℕ). p.piece ++ x) (sym (none_left v)) ∙ p.is in
    subst (λ (x : List ℕ). Puts s x t) all p.puts

-- the next one is put
pub digit_put :
    {s t u : Text} {v k d : ℕ}
    → Putting s v (suc k) t → d ≡ digit (v / 2 ^ (4 * k) % 16) → Puts t (d ∷ []) u → u.at ≤ length u.buffer.now
    → Putting s v k u
digit_put {v = v} {k} {d} p e q room = record {
  piece = p.piece ++ (d ∷ []);
  puts = puts_next p.puts q room;
  is = append_assoc p.piece (d ∷ []) (hexadecimal k v) ∙ ap (λ (x : List ℕ). p.piece ++ x) (one_more v k d e) ∙ p.is;
  count = simp length-append (omega (arith, p.count));
}

-- a number below 100 has one or two decimal digits

one_digit : (k n : ℕ) → n < 10 → decimal_in k n ≡ digit n ∷ []
unfolding decimal_in
one_digit zero n l = ap (λ (d : ℕ). digit d ∷ []) (mod-eq_of_lt l)
one_digit (suc k) n l = rw (lt-ltb n 10 l, decimal_in) refl

pub decimal_one : (n : ℕ) → n < 10 → decimal n ≡ digit n ∷ []
unfolding decimal
decimal_one n l = one_digit n n l

pub decimal_two : (n : ℕ) → 10 ≤ n → n < 100 → decimal n ≡ digit (n / 10) ∷ digit (n % 10) ∷ []
unfolding decimal decimal_in
decimal_two zero h l = absurd (omega arith)
decimal_two (suc k) h l = rw (le-ltb (suc k) 10 h, decimal_in, one_digit k (suc k / 10) (omega arith)) refl

-- the numbers of kinds, refusals and malformed records are below 100

pub returned_small : (a : Answer) → returned a < 100
returned_small (Ok v) = omega arith
returned_small (Err r) = (refusal_range r).1

pub kind_small : (k : Kind) → kind_number k < 100
kind_small Allocate = omega arith
kind_small Free = omega arith
kind_small Move = omega arith
kind_small Load = omega arith
kind_small Store = omega arith
kind_small Fill = omega arith
kind_small Copy = omega arith

pub fault_small : (f : Fault) → fault_number f < 100
fault_small CutShort = omega arith
fault_small UnknownKind = omega arith
fault_small BadFields = omega arith

-- they are the numbers that the variants have
pub fault_tag : (f : Fault) → tag_of fault.the_type f + 17 ≡ fault_number f
fault_tag CutShort = refl
fault_tag UnknownKind = refl
fault_tag BadFields = refl

pub kind_tag : (k : Kind) → tag_of kind.the_type k + 16 ≡ kind_number k
kind_tag Allocate = refl
kind_tag Free = refl
kind_tag Move = refl
kind_tag Load = refl
kind_tag Store = refl
kind_tag Fill = refl
kind_tag Copy = refl

-- a refused call has the value 0
pub value_is : (a : Answer) → result_unwrap_or a 0 ≡ value a
value_is (Ok v) = refl
value_is (Err r) = refl

-- what keeps the numbers of a line below 100, and the line in its room
pub ruleset small = (fault_tag, fault_small, kind_tag, kind_small, returned_small, length-hexadecimal)
