-- Laws of reading a log: where the record that is read ends, and what a log holds from a position on. Assumes nothing.
use Rattle.std.proofs.Common.{ℕ, zero, suc, ◌+◌, ◌-◌, ◌≤◌, ◌<◌, ◌≡◌, Bool, true, false, cond, ◌&&◌, List, length, leb, eqb, Some, None, Result, Ok, Err, refl, sym, ap, ◌∙◌, arith, leb-true, eqb-true, eq-eqb}
use Rattle.std.proofs.lemmas.Bool.Decides.{nat_tests}
use Rattle.block.specs.Bytes.{field}
use Rattle.block.specs.laws.Booleans.{by_bool, and_left, and_right}
use Rattle.call_log.specs.Records.{kind_number, known_kind, field_bytes, record_length, call_at, good_value, insist, formed_at, Next, next_at, Records, followed, records_in, records_from}
use Rattle.call_log.specs.declared.record.Call.{Call}
use Rattle.call_log.specs.declared.record.Fault.{Fault}
use Rattle.call_log.specs.declared.record.Kind.{Kind}
use Rattle.call_log.specs.declared.record.Kind.TheVariants as kind
use Rattle.call_log.specs.declared.record.Fault.TheVariants.{CutShort, UnknownKind, BadFields}

-- a record is read only where the test holds
insisted : {A : Type 0} (ok : Bool) (f : Fault) (r : Result A Fault) (x : A) → insist ok f r ≡ Ok x → (ok ≡ true) × (r ≡ Ok x)
insisted true f r x e = (refl, e)
insisted false f r x e = cc

-- and not at the end
not_ended : (ended : Bool) (next : Next) (c : Call) (n : ℕ) → cond ended None next ≡ Some (Ok (c, n)) → next ≡ Some (Ok (c, n))
not_ended true next c n e = cc
not_ended false next c n e = e

-- no fields are shorter than an allocate's
pub fields_least : (kind : ℕ) → 6 ≤ field_bytes kind
unfolding field_bytes
fields_least kind = grind (arith, nat_tests)

-- a known kind is one of the seven
pub kind_with : (n : ℕ) → known_kind n ≡ true → (k : Kind) × (kind_number k ≡ n)
kind_with n known =
    let low : 16 ≤ n = leb-true _ _ (and_left _ (leb n 22) known) in
    let high : n ≤ 22 = leb-true _ _ (and_right (leb 16 n) _ known) in
    by_bool (eqb n 16) (λ t. (kind.Allocate, sym (eqb-true n 16 t))) (λ a.
    by_bool (eqb n 17) (λ t. (kind.Free, sym (eqb-true n 17 t))) (λ b.
    by_bool (eqb n 18) (λ t. (kind.Move, sym (eqb-true n 18 t))) (λ c.
    by_bool (eqb n 19) (λ t. (kind.Load, sym (eqb-true n 19 t))) (λ d.
    by_bool (eqb n 20) (λ t. (kind.Store, sym (eqb-true n 20 t))) (λ e.
    by_bool (eqb n 21) (λ t. (kind.Fill, sym (eqb-true n 21 t))) (λ f. (kind.Copy, grind (arith, nat_tests))))))))

-- What is known of a record that is read: its kind, its length, where it ends, and its call.
pub record Formed (log : List ℕ) (at : ℕ) (c : Call) (n : ℕ) : Type 0 where
  pub kind : ℕ
  pub is_kind : field log (at + 2) 2 ≡ kind
  pub known : known_kind kind ≡ true
  pub is_length : field log at 2 ≡ record_length kind
  pub ends : at + record_length kind ≡ n
  pub inside : n ≤ length log
  pub is_call : call_at log kind (at + 4) ≡ c

-- every record that is read is so
pub next_formed : (log : List ℕ) (at : ℕ) (c : Call) (n : ℕ) → next_at log at ≡ Some (Ok (c, n)) → Formed log at c n
unfolding next_at formed_at
next_formed log at c n e =
    let left : ℕ = length log - at in
    let len : ℕ = field log at 2 in
    let kind : ℕ = field log (at + 2) 2 in
    let tested : insist (leb 4 left && (leb 4 len && leb len left)) CutShort (formed_at log at len) ≡ Ok (c, n) = cc (not_ended (eqb left 0) _ c n e) in
    let (whole, e1) = insisted {A = Call × ℕ} (leb 4 left && (leb 4 len && leb len left)) CutShort _ (c, n) tested in
    let (known, e2) = insisted (known_kind kind) UnknownKind _ (c, n) e1 in
    let (suits, e3) = insisted (eqb len (record_length kind) && good_value log kind (at + 4)) BadFields _ (c, n) e2 in
    let is : ◌≡◌ {A = Call × ℕ} (call_at log kind (at + 4), at + len) (c, n) = cc e3 in
    let ends : at + len ≡ n = ap (λ (r : Call × ℕ). r.1) is in
    let long : len ≡ record_length kind = eqb-true _ _ (and_left _ (good_value log kind (at + 4)) suits) in
    let four : 4 ≤ left = leb-true _ _ (and_left _ (leb 4 len && leb len left) whole) in
    let fits : len ≤ left = leb-true _ _ (and_right (leb 4 len) _ (and_right (leb 4 left) _ whole)) in
    record { kind = kind; is_kind = refl; known = known; is_length = long; ends = omega arith; inside = omega arith; is_call = ap (λ (r : Call × ℕ). r.0) is }

-- it ends 10 bytes or more behind its start
pub next-behind : (log : List ℕ) (at : ℕ) (c : Call) (n : ℕ) → next_at log at ≡ Some (Ok (c, n)) → (at + 10 ≤ n) × (n ≤ length log)
next-behind log at c n e =
    let f = next_formed log at c n e in
    (omega (arith, f.ends, fields_least f.kind), f.inside)

-- past the end there is none
pub next-end : (log : List ℕ) (at : ℕ) → length log ≤ at → next_at log at ≡ None
unfolding next_at
next-end log at l = rw (eq-eqb (length log - at) 0 (omega arith)) refl

-- what is tested is not the end
never_end : (whole known suits : Bool) (c : Call) (n : ℕ)
    → ◌≡◌ {A = Next} (Some (insist whole CutShort (insist known UnknownKind (insist suits BadFields (Ok (c, n)))))) None → ⊥
never_end whole known suits c n e = cc

-- there is none only past the end
pub end_past : (log : List ℕ) (at : ℕ) → next_at log at ≡ None → length log ≤ at
unfolding next_at
end_past log at e =
    let left : ℕ = length log - at in
    by_bool (eqb left 0) (λ t. omega (arith, eqb-true left 0 t)) (λ t. let x = rw t at e in absurd cc)

-- what follows is looked at only behind a record
followed_same : (r : Next) (f g : ℕ → Records) → ((c : Call) (n : ℕ) → r ≡ Some (Ok (c, n)) → f n ≡ g n) → followed r f ≡ followed r g
followed_same None f g s = refl
followed_same (Some (Err x)) f g s = refl
followed_same (Some (Ok (c, n))) f g s = ap (λ (r : Records). followed (Some (Ok (c, n))) (λ m. r)) (s c n refl)

module _ (log : List ℕ) where
  -- the steps do not matter, where there are enough
  enough : (j k at : ℕ) → length log < at + j → length log < at + k → records_in j log at ≡ records_in k log at
  unfolding records_in
  enough zero zero at p q = refl
  enough zero (suc k) at p q = rw (next-end log at (omega arith)) refl
  enough (suc j) zero at p q = rw (next-end log at (omega arith)) refl
  enough (suc j) (suc k) at p q =
      followed_same (next_at log at) (records_in j log) (records_in k log)
      (λ c n e. let b = next-behind log at c n e in enough j k n (omega arith) (omega arith))

  -- what a log holds from a position on, by what it has there
  pub records-next : (at : ℕ) (r : Next) → next_at log at ≡ r → records_from log at ≡ followed r (records_from log)
  unfolding records_from records_in
  records-next at r e =
      followed_same (next_at log at) (records_in (length log) log) (records_in (suc (length log)) log)
      (λ c n i. let b = next-behind log at c n i in enough (length log) (suc (length log)) n (omega arith) (omega arith))
      ∙ ap (λ (k : Next). followed k (records_from log)) e

-- what is known of the position behind what is read
pub ruleset steps = (next-end, next-behind)
