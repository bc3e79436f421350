-- Good descriptors and good lists. Assumes nothing.
use Rattle.std.proofs.Common.{ℕ, zero, suc, ◌+◌, ◌*◌, ◌/◌, ◌≤◌, ◌<◌, ◌≡◌, subst, refl, true, List, length, ltb, eqb, None, Option, Some, sym, ap, ◌∙◌, arith, ne_eqb, ltb-true, ltb-false, eqb-true, ◌-◌}
use Rattle.std.proofs.lemmas.Bool.{eqb-false}
use Rattle.std.proofs.lemmas.Grind.{common_steps}
use Rattle.block.specs.laws.Booleans.{by_bool}
use Rattle.descriptors.specs.Descriptors.{descriptor_at, length_at, type_at, size_at, field_count, field_at, WholeTo, start, over, look_up, is_nowhere, good_fields_in, good_shape, good_head, good_descriptor, good_from_in, good_list, Stands}
use Rattle.descriptors.specs.Claims.{Describes}
use Rattle.descriptors.specs.laws.Lookups.{whole-inside, whole_boundary, boundary_whole, found_at, found_describes, missed}
use Rattle.descriptors.specs.laws.Fields.{Fits, fields_fit}
use Rattle.descriptors.specs.declared.descriptor.Descriptor.{Descriptor}

-- A good shape.

-- a plain type of 12 bytes, or a record of 12 and whole fields
pub data Shaped (d : Descriptor) : Type 0 where
  plain : d.kind ≡ 4 → d.length ≡ 12 → Shaped d
  fielded : d.kind ≡ 5 → d.length ≡ 12 + 6 * ((d.length - 12) / 6) → Shaped d

shaped : (d : Descriptor) → good_shape d ≡ true → Shaped d
shaped d g =
    by_bool (eqb d.kind 4)
    (λ t. plain (eqb-true _ _ t) (grind (arith, common_steps)))
    (λ t. fielded (grind (arith, common_steps)) (grind (arith, common_steps)))

-- its length, whatever the kind
shaped_length : (d : Descriptor) → Shaped d → d.length ≡ 12 + 6 * ((d.length - 12) / 6)
shaped_length d (plain k l) = omega arith
shaped_length d (fielded k l) = l

-- A good head.

pub record Headed (list : List ℕ) (p : ℕ) : Type 0 where
  pub head : p + 12 ≤ length list
  pub whole : p + length_at list p ≤ length list
  pub shape : Shaped (descriptor_at list p)
  pub some_size : 0 < size_at list p

pub headed : (list : List ℕ) (p : ℕ) → good_head list p ≡ true → Headed list p
headed list p g =
    record {
      head = grind (arith, common_steps);
      whole = grind (arith, common_steps);
      shape = shaped (descriptor_at list p) (grind (arith, common_steps));
      some_size = grind (arith, common_steps);
    }

-- its length is 12 and whole fields
pub headed-length : (list : List ℕ) (p : ℕ) → Headed list p → length_at list p ≡ 12 + 6 * field_count list p
headed-length list p h = shaped_length (descriptor_at list p) h.shape

-- the walk goes on behind it
pub headed-over : (list : List ℕ) (p : ℕ) → WholeTo list p → Headed list p → WholeTo list (p + length_at list p)
headed-over list p w h = over p w h.head (omega (arith, headed-length list p h)) h.whole

-- A good descriptor.

pub record Good (list : List ℕ) (p : ℕ) : Type 0 where
  pub at_head : Headed list p
  pub once : look_up list p (type_at list p) ≡ None
  pub fields : good_fields_in (field_count list p) list p 0 0 ≡ true

nowhere : (r : Option ℕ) → is_nowhere r ≡ true → r ≡ None
nowhere (Some q) e = cc
nowhere None e = refl

pub good_parts : (list : List ℕ) (p : ℕ) → good_descriptor list p ≡ true → Good list p
unfolding good_descriptor
good_parts list p g =
    record {
      at_head = headed list p (grind (arith, common_steps));
      once = nowhere (look_up list p (type_at list p)) (grind (arith, common_steps));
      fields = grind (arith, common_steps);
    }

-- A good list.

module _ (list : List ℕ) where
  -- one turn of the walk, where it comes to true
  turn : (k p : ℕ) → good_from_in (suc k) list p ≡ true → p < length list
      → (good_descriptor list p ≡ true) × (good_from_in k list (p + length_at list p) ≡ true)
  unfolding good_from_in
  turn k p g l =
      by_bool (good_descriptor list p)
      (λ t. (t, rw (good_from_in, ne_eqb p (length list) (λ e. omega arith), t) at g))
      (λ t. grind (arith, common_steps))

  -- the walk comes to p, with steps enough for what is left
  record Comes (p : ℕ) : Type 0 where
    pub steps : ℕ
    pub enough : length list < p + steps
    pub good : good_from_in steps list p ≡ true

  comes_next : (p : ℕ) → p + 12 ≤ length list → 12 ≤ length_at list p → Comes p → Comes (p + length_at list p)
  comes_next p h l c = go c.steps c.enough c.good
    where
      go : (k : ℕ) → length list < p + k → good_from_in k list p ≡ true → Comes (p + length_at list p)
      go zero e g = absurd (omega arith)
      go (suc k) e g = record { steps = k; enough = omega arith; good = (turn k p g (omega arith)).1 }

  comes : good_list list ≡ true → (p : ℕ) → WholeTo list p → Comes p
  unfolding good_list
  comes g _ start = record { steps = suc (length list); enough = omega arith; good = g }
  comes g _ (over p w a b c) = comes_next p a b (comes g p w)

  good_at : (p : ℕ) → p < length list → Comes p → good_descriptor list p ≡ true
  good_at p l c = go c.steps c.enough c.good
    where
      go : (k : ℕ) → length list < p + k → good_from_in k list p ≡ true → good_descriptor list p ≡ true
      go zero e h = absurd (omega arith)
      go (suc k) e h = (turn k p h l).0

  end_in : (k p : ℕ) → good_from_in k list p ≡ true → WholeTo list p → p ≤ length list → WholeTo list (length list)
  unfolding good_from_in
  end_in zero p g w l = cc
  end_in (suc k) p g w l =
      by_bool (eqb p (length list))
      (λ t. subst (λ (x : ℕ). WholeTo list x) (eqb-true p (length list) t) w)
      (λ t.
      let (d, r) = turn k p g (omega (arith, eqb-false p (length list) t)) in
      let h = (good_parts list p d).at_head in
      end_in k (p + length_at list p) r (headed-over list p w h) h.whole)

-- Its descriptors.

module _ (list : List ℕ) (p : ℕ) (s : Stands list p) where
  pub good_here : Good list p
  good_here = good_parts list p (good_at list p s.inside (comes list s.good p s.whole))

  -- its first 12 bytes lie in the list
  pub head_here : p + 12 ≤ length list
  head_here = good_here.at_head.head

  -- and so do all its bytes
  pub whole_here : p + length_at list p ≤ length list
  whole_here = good_here.at_head.whole

  -- its length is 12 and whole fields
  pub length_here : length_at list p ≡ 12 + 6 * field_count list p
  length_here = headed-length list p good_here.at_head

  -- its fields fit
  pub field_fits : (k : ℕ) → k < field_count list p → Fits list p 0 (field_at list p k)
  field_fits k m = fields_fit (field_count list p) list p 0 0 good_here.fields k (omega arith) (omega arith)

  -- and the types that they name are described on it
  pub named_stands : (type q : ℕ) → look_up list p type ≡ Some q → Stands list q
  named_stands type q e =
      let f = found_at list p type q s.whole e in
      record { good = s.good; whole = f.whole; inside = omega (arith, f.before, s.inside) }

  -- as the claims have it
  pub stands_describes : Describes list (length list) (type_at list p) p
  stands_describes = record { boundary = whole_boundary list p s.whole; before = s.inside; type_is = refl }

module _ (list : List ℕ) (g : good_list list ≡ true) where
  -- its end is reached
  pub end_reached : WholeTo list (length list)
  unfolding good_list
  end_reached = end_in list (suc (length list)) 0 g start (omega arith)

  -- what is described before its end stands there
  pub describes_stands : (type p : ℕ) → Describes list (length list) type p → Stands list p
  describes_stands type p d =
      record { good = g; whole = boundary_whole list (length list) end_reached p d.boundary d.before; inside = d.before }

  -- a type is described once
  pub described_once : (p q type : ℕ) → Describes list (length list) type p → Describes list (length list) type q → p ≡ q
  described_once p q type d e =
      by_bool (ltb p q)
      (λ t. absurd (again p q d e (ltb-true p q t)))
      (λ t. by_bool (ltb q p) (λ u. absurd (again q p e d (ltb-true q p u))) (λ u. omega (arith, ltb-false p q t, ltb-false q p u)))
    where
      again : (a b : ℕ) → Describes list (length list) type a → Describes list (length list) type b → a < b → ⊥
      again a b da db l =
          let s = describes_stands type b db in
          missed list b (type_at list b) a s.whole (good_here list b s).once
          (record { boundary = da.boundary; before = l; type_is = da.type_is ∙ sym db.type_is })

  -- looking a type up before any position that is reached finds its descriptor
  pub lookup-at : (end type p : ℕ) → WholeTo list end → Describes list end type p → look_up list end type ≡ Some p
  lookup-at end type p we d = go (look_up list end type) refl
    where
      inside : (q : ℕ) → Describes list end type q → Describes list (length list) type q
      inside q e = record { boundary = e.boundary; before = omega (arith, e.before, whole-inside list end we); type_is = e.type_is }

      go : (r : Option ℕ) → look_up list end type ≡ r → r ≡ Some p
      go (Some q) e =
          ap Some (described_once q p type (inside q (found_describes list end type q (found_at list end type q we e))) (inside p d))
      go None e = absurd (missed list end type p we e d)

  -- what is found on all of it is described there
  pub lookup_describes : (type p : ℕ) → look_up list (length list) type ≡ Some p → Describes list (length list) type p
  lookup_describes type p e = found_describes list (length list) type p (found_at list (length list) type p end_reached e)

  pub lookup_stands : (type p : ℕ) → look_up list (length list) type ≡ Some p → Stands list p
  lookup_stands type p e = describes_stands type p (lookup_describes type p e)
