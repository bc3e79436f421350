-- Positions in a list of descriptors, and looking a type up. Assumes nothing.
use Rattle.std.proofs.Common.{ℕ, zero, suc, ◌+◌, ◌≤◌, ◌<◌, ◌≡◌, Bool, true, false, List, length, leb, ltb, eqb, None, Some, refl, sym, ap, ◌∙◌, arith, le-ltb, lt-ltb, eq-eqb, ne_eqb, leb-true, leb-false, ltb-true, ltb-false, eqb-true}
use Rattle.std.proofs.lemmas.Bool.{eqb-false}
use Rattle.std.proofs.Math.Decide.{ℕ_discrete}
use Rattle.block.specs.laws.Booleans.{by_bool}
use Rattle.descriptors.specs.Descriptors.{length_at, type_at, WholeTo, start, over, look_up_in, look_up}
use Rattle.descriptors.specs.Claims.{Boundary, first, next, Describes}

-- Positions.

module _ (list : List ℕ) where
  -- a position that is reached lies in the list
  pub whole-inside : (p : ℕ) → WholeTo list p → p ≤ length list
  whole-inside _ start = omega arith
  whole-inside _ (over p w a b c) = c

  -- what stands at p, where the walk goes on to q: a whole descriptor that ends at or before q
  pub record Step (p q : ℕ) : Type 0 where
    pub head : p + 12 ≤ length list
    pub long : 12 ≤ length_at list p
    pub ends : p + length_at list p ≤ q
    pub reached : WholeTo list (p + length_at list p)

  here : (p q : ℕ) → p ≡ q → q + 12 ≤ length list → 12 ≤ length_at list q → WholeTo list (q + length_at list q)
      → Step p (q + length_at list q)
  here p q e a b w = rw e (record { head = a; long = b; ends = omega arith; reached = w })

  further : (p q r : ℕ) → q ≤ r → Step p q → Step p r
  further p q r l s = record { head = s.head; long = s.long; ends = omega (arith, s.ends); reached = s.reached }

  -- by the last step to q, where the law holds of all positions up to n
  back : (n p q : ℕ) → q ≤ suc n → WholeTo list p → WholeTo list q → p < q
      → ((x y : ℕ) → y ≤ n → WholeTo list x → WholeTo list y → x < y → Step x y) → Step p q
  back n p _ h wp start l ih = absurd (omega arith)
  back n p _ h wp (over q wq a b c) l ih = go (ℕ_discrete p q) (leb p q) refl
    where
      go : Dec (p ≡ q) → (t : Bool) → leb p q ≡ t → Step p (q + length_at list q)
      go (yes e) t d = here p q e a b (over q wq a b c)
      go (no f) true d = further p q (q + length_at list q) (omega arith) (ih p q (omega arith) wp wq (omega (arith, leb-true p q d)))
      go (no f) false d = let s = ih q p (omega arith) wq wp (leb-false p q d) in absurd (omega (arith, s.ends))

  steps : (n p q : ℕ) → q ≤ n → WholeTo list p → WholeTo list q → p < q → Step p q
  steps zero p q h wp wq l = absurd (omega arith)
  steps (suc n) p q h wp wq l = back n p q h wp wq l (λ x y k wx wy m. steps n x y k wx wy m)

  -- a descriptor stands at every position before q, where both are reached
  pub step : (p q : ℕ) → WholeTo list p → WholeTo list q → p < q → Step p q
  step p q wp wq l = steps q p q (omega arith) wp wq l

  -- what is reached is a boundary
  pub whole_boundary : (p : ℕ) → WholeTo list p → Boundary list p
  whole_boundary _ start = first
  whole_boundary _ (over p w a b c) = next p (whole_boundary p w) (omega arith)

  -- and each boundary before it is reached
  pub boundary_whole : (p : ℕ) → WholeTo list p → (q : ℕ) → Boundary list q → q < p → WholeTo list q
  boundary_whole p wp _ first l = start
  boundary_whole p wp _ (next q b m) l = (step q p (boundary_whole p wp q b (omega arith)) wp (omega arith)).reached

-- The turns of a lookup.

module _ (list : List ℕ) (steps end type p : ℕ) where
  pub lookup-end : end ≤ p → look_up_in steps list end type p ≡ None
  unfolding look_up_in
  lookup-end l = go steps
    where
      go : (k : ℕ) → look_up_in k list end type p ≡ None
      go zero = refl
      go (suc k) = rw (look_up_in, le-ltb p end l)

  pub lookup-found : p < end → type_at list p ≡ type → look_up_in (suc steps) list end type p ≡ Some p
  unfolding look_up_in
  lookup-found l e = rw (look_up_in, lt-ltb p end l, eq-eqb _ _ e)

  pub lookup_on : p < end → (type_at list p ≡ type → ⊥)
      → look_up_in (suc steps) list end type p ≡ look_up_in steps list end type (p + length_at list p)
  unfolding look_up_in
  lookup_on l e = rw (look_up_in, lt-ltb p end l, ne_eqb _ _ e)

-- What it finds.

pub at_injective : (p q : ℕ) → Some p ≡ Some q → p ≡ q
at_injective p q e = cc

pub at_somewhere : (q : ℕ) → Some q ≡ None → ⊥
at_somewhere q e = cc

-- a whole descriptor of the type stands at q, before `end`
pub record FoundAt (list : List ℕ) (end type q : ℕ) : Type 0 where
  pub whole : WholeTo list q
  pub before : q < end
  pub type_is : type_at list q ≡ type

found_in : (k : ℕ) (list : List ℕ) (end type p q : ℕ) → WholeTo list p → WholeTo list end → look_up_in k list end type p ≡ Some q
    → FoundAt list end type q
unfolding look_up_in
found_in zero list end type p q w we e = cc
found_in (suc k) list end type p q w we e =
    by_bool (ltb p end)
    (λ t.
    let l = ltb-true p end t in
    by_bool (eqb (type_at list p) type)
    (λ u.
    let here : q ≡ p = cc (e, lookup-found list k end type p l (eqb-true _ _ u)) in
    rw here (record { whole = w; before = l; type_is = eqb-true _ _ u }))
    (λ u.
    found_in k list end type (p + length_at list p) q (step list p end w we l).reached we
    (sym (lookup_on list k end type p l (eqb-false _ _ u)) ∙ e)))
    (λ t. cc (e, lookup-end list (suc k) end type p (ltb-false p end t)))

pub found_at : (list : List ℕ) (end type q : ℕ) → WholeTo list end → look_up list end type ≡ Some q → FoundAt list end type q
unfolding look_up
found_at list end type q we e = found_in (suc end) list end type 0 q start we e

-- its first 12 bytes lie in the list
pub found_head : (list : List ℕ) (end type q : ℕ) → WholeTo list end → look_up list end type ≡ Some q → q + 12 ≤ length list
found_head list end type q we e = let f = found_at list end type q we e in (step list q end f.whole we f.before).head

-- as the claims have it
pub found_describes : (list : List ℕ) (end type q : ℕ) → FoundAt list end type q → Describes list end type q
found_describes list end type q f = record { boundary = whole_boundary list q f.whole; before = f.before; type_is = f.type_is }

-- What it does not find is not there.

missed_in : (k : ℕ) (list : List ℕ) (end type p q : ℕ) → WholeTo list p → WholeTo list end → end < p + k
    → look_up_in k list end type p ≡ None → WholeTo list q → p ≤ q → q < end → type_at list q ≡ type → ⊥
missed_in zero list end type p q wp we h e wq a b t = omega arith
missed_in (suc k) list end type p q wp we h e wq a b t =
    let l : p < end = omega arith in
    by_bool (eqb (type_at list p) type)
    (λ u. cc (e, lookup-found list k end type p l (eqb-true _ _ u)))
    (λ u.
    let n : p ≡ q → ⊥ = λ i. eqb-false (type_at list p) type u (ap (λ (x : ℕ). type_at list x) i ∙ t) in
    let s = step list p q wp wq (omega (arith, n)) in
    missed_in k list end type (p + length_at list p) q s.reached we (omega (arith, s.long))
    (sym (lookup_on list k end type p l (eqb-false _ _ u)) ∙ e) wq s.ends b t)

pub missed : (list : List ℕ) (end type q : ℕ) → WholeTo list end → look_up list end type ≡ None → Describes list end type q → ⊥
unfolding look_up
missed list end type q we e d =
    missed_in (suc end) list end type 0 q start we (omega arith) e (boundary_whole list end we q d.boundary d.before) (omega arith) d.before
    d.type_is
