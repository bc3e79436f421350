-- What row 24 refuses, and what it lets pass, case by case. Assumes nothing.
use Rattle.std.proofs.Common.{ℕ, zero, suc, ◌+◌, ◌<◌, ◌≡◌, false, List, length, leb, eqb, None, Option, Some, refl, sym, ap, ◌∙◌, leb-false, eqb-true, true, arith}
use Rattle.std.proofs.lemmas.Bool.{eqb-false}
use Rattle.std.proofs.lemmas.Grind.{common_steps}
use Rattle.block.specs.laws.Booleans.{by_bool}
use Rattle.descriptors.specs.Descriptors.{descriptor_at, length_at, kind_at, type_at, size_at, field_count, field_at, WholeTo, start, look_up, field_end, good_fields_in, good_shape, good_head, good_descriptor, good_from_in, good_list, Stands}
use Rattle.descriptors.specs.Claims.{Describes, BadFieldAt, no_earlier_type, overlaps, sticks_out, BadDescriptorAt, no_head, cut_short, unknown_kind, no_size, plain-length, record_length_lem, repeated_type, bad_field, SomeBad}
use Rattle.descriptors.specs.laws.Lookups.{whole-inside, whole_boundary, found_at, found_describes, missed}
use Rattle.descriptors.specs.laws.Fields.{Fits, end_of, Tried, fits, unnamed, early, late, tried, fields_on, fields_apart}
use Rattle.descriptors.specs.laws.Lists.{Shaped, plain, fielded, headed-length, headed-over, good_parts, good_here, length_here, field_fits, describes_stands, lookup-at}

-- A list that is refused has a bad descriptor.

module _ (list : List ℕ) (p : ℕ) (w : WholeTo list p) where
  -- what a lookup before p finds is described there
  described : (type q : ℕ) → look_up list p type ≡ Some q → Describes list p type q
  described type q e = found_describes list p type q (found_at list p type q w e)

  -- where field k may start: anywhere, or at the end of the field before it
  data From : ℕ → ℕ → Type 0 where
    anywhere : From 0 0
    behind : (j q : ℕ) → Describes list p (field_at list p j).ty q → From (suc j) ((field_at list p j).offset + size_at list q)

  starts_early : (k from : ℕ) → From k from → (field_at list p k).offset < from → BadFieldAt list p k
  starts_early _ _ anywhere l = absurd (omega arith)
  starts_early _ _ (behind j q d) l = overlaps j q refl d l

  bad_field_in : (n k from : ℕ) → From k from → good_fields_in n list p from k ≡ false → (j : ℕ) × (j < k + n) × BadFieldAt list p j
  unfolding good_fields_in
  bad_field_in zero k from f g = cc
  bad_field_in (suc n) k from f g =
      go (tried list p from (field_at list p k))
      (λ i e.
      bad_field_in n (suc k) (end_of list p from (field_at list p k) i) (behind k i.of (described (field_at list p k).ty i.of i.named))
      (sym (fields_on list p n from k _ e) ∙ g))
    where
      go : Tried list p from (field_at list p k)
          → ((i : Fits list p from (field_at list p k)) → field_end list p from (field_at list p k) ≡ Some (end_of list p from (field_at list p k) i)
          → (j : ℕ) × (j < suc k + n) × BadFieldAt list p j)
          → (j : ℕ) × (j < k + suc n) × BadFieldAt list p j
      go (fits i e) rest = let (j, l, b) = rest i e in (j, omega arith, b)
      go (unnamed a e) rest = (k, omega arith, no_earlier_type (λ q d. missed list p (field_at list p k).ty q w a d))
      go (early q a l e) rest = (k, omega arith, starts_early k from f l)
      go (late q a l e) rest = (k, omega arith, sticks_out q (described (field_at list p k).ty q a) l)

  bad_shape : good_shape (descriptor_at list p) ≡ false → BadDescriptorAt list p
  bad_shape g =
      by_bool (eqb (kind_at list p) 4)
      (λ t. plain-length (eqb-true _ _ t) (λ e. grind (arith, common_steps)))
      (λ t.
      by_bool (eqb (kind_at list p) 5)
      (λ u. record_length_lem (eqb-true _ _ u) (λ n e. grind (arith, common_steps)))
      (λ u. unknown_kind (eqb-false _ _ t) (eqb-false _ _ u)))

  bad_head : good_head list p ≡ false → BadDescriptorAt list p
  bad_head g =
      by_bool (leb (p + 12) (length list))
      (λ a.
      by_bool (leb (p + length_at list p) (length list))
      (λ b.
      by_bool (good_shape (descriptor_at list p))
      (λ c. no_size (grind (arith, common_steps)))
      bad_shape)
      (λ b. cut_short (leb-false _ _ b)))
      (λ a. no_head (leb-false _ _ a))

  bad_here : good_descriptor list p ≡ false → BadDescriptorAt list p
  unfolding good_descriptor
  bad_here g = by_bool (good_head list p) (λ t. go t (look_up list p (type_at list p)) refl) bad_head
    where
      go : good_head list p ≡ true → (r : Option ℕ) → look_up list p (type_at list p) ≡ r → BadDescriptorAt list p
      go t (Some q) e = repeated_type q (described (type_at list p) q e)
      go t None e =
          let (k, l, b) = bad_field_in (field_count list p) 0 0 anywhere (rw (good_descriptor, t, e) at g) in
          bad_field k (omega arith) b

some_bad_in : (list : List ℕ) (k p : ℕ) → good_from_in k list p ≡ false → WholeTo list p → length list < p + k → SomeBad list
unfolding good_from_in
some_bad_in list zero p g w e = absurd (omega (arith, whole-inside list p w))
some_bad_in list (suc k) p g w e =
    by_bool (eqb p (length list))
    (λ t. grind (arith, common_steps))
    (λ t.
    let l : p < length list = omega (arith, whole-inside list p w, eqb-false p (length list) t) in
    by_bool (good_descriptor list p)
    (λ u.
    let h = (good_parts list p u).at_head in
    some_bad_in list k (p + length_at list p) (rw (good_from_in, t, u) at g) (headed-over list p w h) (omega (arith, headed-length list p h)))
    (λ u. (p, whole_boundary list p w, l, bad_here list p w u)))

-- whatever refused it
pub some_bad : (list : List ℕ) → good_list list ≡ false → SomeBad list
unfolding good_list
some_bad list g = some_bad_in list (suc (length list)) 0 g start (omega arith)

-- A list that passes has none.

module _ (list : List ℕ) (p : ℕ) (s : Stands list p) where
  no_bad_field : (k : ℕ) → k < field_count list p → BadFieldAt list p k → ⊥
  no_bad_field k m (no_earlier_type n) =
      let f = field_fits list p s k m in
      n f.of (described list p s.whole (field_at list p k).ty f.of f.named)
  no_bad_field k m (overlaps j q e d l) =
      let at = lookup-at list s.good p (field_at list p j).ty q s.whole d in
      let apart = fields_apart (field_count list p) list p 0 0 (good_here list p s).fields j k (omega arith) (omega arith) (omega arith) q at in
      omega (arith, apart, l)
  no_bad_field k m (sticks_out q d l) =
      let f = field_fits list p s k m in
      let same : q ≡ f.of = cc (lookup-at list s.good p (field_at list p k).ty q s.whole d, f.named) in
      omega (arith, f.inside, l, ap (λ (x : ℕ). size_at list x) same)

  no_bad_descriptor : BadDescriptorAt list p → ⊥
  no_bad_descriptor (no_head l) = omega (arith, (good_here list p s).at_head.head)
  no_bad_descriptor (cut_short l) = omega (arith, (good_here list p s).at_head.whole)
  no_bad_descriptor (unknown_kind a b) = go (good_here list p s).at_head.shape
    where
      go : Shaped (descriptor_at list p) → ⊥
      go (plain k l) = a k
      go (fielded k l) = b k
  no_bad_descriptor (no_size e) = omega (arith, (good_here list p s).at_head.some_size)
  no_bad_descriptor (plain-length a n) = go (good_here list p s).at_head.shape
    where
      go : Shaped (descriptor_at list p) → ⊥
      go (plain k l) = n l
      go (fielded k l) = omega arith
  no_bad_descriptor (record_length_lem a n) = n (field_count list p) (length_here list p s)
  no_bad_descriptor (repeated_type q d) = missed list p (type_at list p) q s.whole (good_here list p s).once d
  no_bad_descriptor (bad_field k m b) = no_bad_field k m b

pub none_bad : (list : List ℕ) → good_list list ≡ true → SomeBad list → ⊥
none_bad list g (p, b, l, bad) =
    no_bad_descriptor list p (describes_stands list g (type_at list p) p (record { boundary = b; before = l; type_is = refl })) bad

-- so a list without one passes
pub unless_bad : (list : List ℕ) → (SomeBad list → ⊥) → good_list list ≡ true
unless_bad list n = by_bool (good_list list) (λ t. t) (λ t. absurd (n (some_bad list t)))
