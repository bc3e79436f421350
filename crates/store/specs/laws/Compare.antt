-- Compare: what it answers, what is known where its rows are passed, and that it is an order. Assumes nothing.
use Rattle.std.specs.Prelude.{ℕ, ◌<◌, ◌≡◌, refl, Bool, true, false, cond, ◌&&◌, List, ltb, pos, neg_ℤ, length, take, drop, Err, Ok}
use Rattle.std.proofs.Common.{sym, ap, ◌∙◌, arith, length-drop, length-take-le, ltb-true}
use Rattle.std.specs.Int.Signed.{le_z}
use Rattle.frame.specs.Pointers.{unpack}
use Rattle.block.specs.Order.{compare_bytes, sign}
use Rattle.block.specs.laws.Order.{compare_swapped, compare_transitive}
use Rattle.store.specs.State.{State, demand, comparison_number, comparison_value}
use Rattle.store.specs.Calls.{opening, accessed, copy_checks, compared, compare}
use Rattle.store.specs.laws.Refusals.{refused_some, demand_met, and_then_met}
use Rattle.store.specs.laws.Access.{accessed_parts}
use Rattle.store.specs.laws.Copy.{copy-refused, copy_access}
use Rattle.store.specs.declared.answer.Refusal.{Refusal}
use Rattle.store.specs.declared.answer.Refusal.TheVariants.{Empty, OutOfBounds}
use Rattle.store.specs.State.{Answer}

-- the n bytes through a pointer
abbrev pub bytes_through : State → ℕ → ℕ → List ℕ
bytes_through x n p = take n (drop (unpack p).address x.image)

module _ (p q n : ℕ) (x : State) where
  -- row 4, 5, 6, 10, 11 or 13
  pub compare_declined : (r : Refusal) → copy_checks p q n x ≡ Err r → Err r ≡ compare p q n x
  unfolding compare compared
  compare_declined r e = rw e

  -- all are passed
  pub compare_done : (b : ℕ) → copy_checks p q n x ≡ Ok b
      → Ok (compare_bytes (take n (drop (unpack p).address x.image)) (take n (drop b x.image))) ≡ compare p q n x
  unfolding compare compared
  compare_done b e = rw e

-- the rows of compare are passed: the n bytes through each pointer lie in its object's body
record Compares (p q n : ℕ) (x : State) : Type 0 where
  pub exponent : ℕ
  pub opens : opening x ≡ Ok exponent
  pub some : 0 < n
  pub left : accessed exponent (unpack p) n x ≡ Ok (unpack p).address
  pub right : accessed exponent (unpack q) n x ≡ Ok (unpack q).address

-- an access gives the pointer's address
accessed_address : (s p n : ℕ) (x : State) (a : ℕ) → accessed s (unpack p) n x ≡ Ok a → accessed s (unpack p) n x ≡ Ok (unpack p).address
accessed_address s p n x a e = e ∙ ap Ok (accessed_parts s (unpack p) n x a e).address

-- an accepted compare passes them
compare_parts : (p q n : ℕ) (x : State) → comparison_number (compare p q n x) ≡ 0 → Compares p q n x
unfolding copy_checks
compare_parts p q n x e = go (copy_checks p q n x) refl
  where
    go : (a : Answer) → copy_checks p q n x ≡ a → Compares p q n x
    go (Err r) c = absurd (refused_some r (ap comparison_number (compare_declined p q n x r c) ∙ e))
    go (Ok b) c =
        let (s, o, m) = and_then_met (opening x) _ b c in
        let l = demand_met (ltb 0 n) Empty _ b m in
        let (a, u, v) = and_then_met (accessed s (unpack p) n x) _ b l.1 in
        record {
          exponent = s;
          opens = o;
          some = ltb-true 0 n l.0;
          left = accessed_address s p n x a u;
          right = accessed_address s q n x b v;
        }

-- and what it gives then
compare-gives : (p q n : ℕ) (x : State) → Compares p q n x → compare p q n x ≡ Ok (compare_bytes (bytes_through x n p) (bytes_through x n q))
compare-gives p q n x c =
    sym
    (compare_done p q n x (unpack q).address
    (sym (copy_access x c.exponent c.opens p q n c.some (unpack p).address c.left) ∙ c.right))

-- What it comes to, where rows 4 and 5 are passed and the tests of the bytes are known.
pub compare-through : (s : ℕ) (x : State) → opening x ≡ Ok s → (p q n : ℕ) (b c : Bool) → ltb 0 n ≡ true
    → accessed s (unpack p) n x ≡ demand b OutOfBounds (Ok (unpack p).address)
    → accessed s (unpack q) n x ≡ demand c OutOfBounds (Ok (unpack q).address)
    → compare p q n x ≡ cond (b && c) (Ok (compare_bytes (bytes_through x n p) (bytes_through x n q))) (Err OutOfBounds)
compare-through s x o p q n true true l e f = compare-gives p q n x (record { exponent = s; opens = o; some = ltb-true 0 n l; left = e; right = f })
compare-through s x o p q n true false l e f = sym (compare_declined p q n x OutOfBounds (sym (copy_access x s o p q n (ltb-true 0 n l) _ e) ∙ f))
compare-through s x o p q n false c l e f = sym (compare_declined p q n x OutOfBounds (sym (copy-refused x s o p q n (ltb-true 0 n l) OutOfBounds e)))

-- An order.

-- it is accepted, and its value is the sign of the bytes' order
record Orders (p q n : ℕ) (x : State) : Type 0 where
  pub number : comparison_number (compare p q n x) ≡ 0
  pub sign_of : comparison_value (compare p q n x) ≡ sign (compare_bytes (bytes_through x n p) (bytes_through x n q))

compare-orders : (p q n : ℕ) (x : State) → Compares p q n x → Orders p q n x
compare-orders p q n x c = record { number = ap comparison_number (compare-gives p q n x c); sign_of = ap comparison_value (compare-gives p q n x c) }

-- swapped operands, and those of two compares with one in common
compares_swapped : {p q n : ℕ} {x : State} → Compares p q n x → Compares q p n x
compares_swapped c = record { exponent = c.exponent; opens = c.opens; some = c.some; left = c.right; right = c.left }

compares_chained : (p q r n : ℕ) (x : State) → Compares p q n x → Compares q r n x → Compares p r n x
compares_chained p q r n x c d =
    let same : c.exponent ≡ d.exponent = cc (c.opens, d.opens) in
    record { exponent = c.exponent; opens = c.opens; some = c.some; left = c.left; right = rw same d.right }

-- n bytes stand through each pointer
length-through : (s p n : ℕ) (x : State) → accessed s (unpack p) n x ≡ Ok (unpack p).address → length (bytes_through x n p) ≡ n
length-through s p n x e =
    length-take-le n (drop (unpack p).address x.image) (simp length-drop (omega (arith, (accessed_parts s (unpack p) n x _ e).inside)))

pub swapped_order : (p q n : ℕ) (x : State) → comparison_number (compare p q n x) ≡ 0
    → (comparison_number (compare q p n x) ≡ 0) × (comparison_value (compare q p n x) ≡ neg_ℤ (comparison_value (compare p q n x)))
swapped_order p q n x e =
    let c = compare_parts p q n x e in
    let there = compare-orders p q n x c in
    let back = compare-orders q p n x (compares_swapped c) in
    (back.number, back.sign_of ∙ compare_swapped (bytes_through x n p) (bytes_through x n q) ∙ ap neg_ℤ (sym there.sign_of))

pub transitive_order : (p q r n : ℕ) (x : State) → comparison_number (compare p q n x) ≡ 0 → comparison_number (compare q r n x) ≡ 0
    → le_z (comparison_value (compare p q n x)) (pos 0) ≡ true → le_z (comparison_value (compare q r n x)) (pos 0) ≡ true
    → (comparison_number (compare p r n x) ≡ 0) × (le_z (comparison_value (compare p r n x)) (pos 0) ≡ true)
transitive_order p q r n x e f l m =
    let c = compare_parts p q n x e in
    let d = compare_parts q r n x f in
    let whole = compare-orders p r n x (compares_chained p q r n x c d) in
    let long = length-through c.exponent p n x c.left in
    let middle = length-through c.exponent q n x c.right in
    let last = length-through d.exponent r n x d.right in (
      whole.number,
      rw whole.sign_of
          (compare_transitive (bytes_through x n p) (bytes_through x n q) (bytes_through x n r) (long ∙ sym middle) (middle ∙ sym last)
          (rw (compare-orders p q n x c).sign_of at l) (rw (compare-orders q r n x d).sign_of at m)),
    )
