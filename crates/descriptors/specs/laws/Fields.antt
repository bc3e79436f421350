-- The fields of a record. Assumes nothing.
use Rattle.std.proofs.Common.{ℕ, zero, suc, ◌+◌, ◌≤◌, ◌<◌, ◌≡◌, refl, true, false, List, leb, ltb, None, Option, Some, sym, ap, ◌∙◌, subst, arith, leb-true, leb-false, ltb-true, ltb-false}
use Rattle.std.proofs.lemmas.Grind.{common_steps}
use Rattle.block.specs.laws.Booleans.{by_bool}
use Rattle.descriptors.specs.Descriptors.{size_at, field_at, look_up, end_within, field_end, good_fields_in}
use Rattle.descriptors.specs.declared.descriptor.Field.{Field}

-- Where bytes end.

module _ (from size offset extent : ℕ) where
  -- they start too early
  pub ends_early : offset < from → end_within from size offset extent ≡ None
  ends_early l = grind (arith, common_steps)

  -- they end too late
  pub ends_past : size < offset + extent → end_within from size offset extent ≡ None
  ends_past l = grind (arith, common_steps)

  pub ends-inside : from ≤ offset → offset + extent ≤ size → end_within from size offset extent ≡ Some (offset + extent)
  ends-inside l m = grind (arith, common_steps)

-- Where a field ends, by its type's descriptor.

module _ (list : List ℕ) (p from : ℕ) (d : Field) where
  pub unnamed_ends : look_up list p d.ty ≡ None → field_end list p from d ≡ None
  unfolding field_end
  unnamed_ends e = rw (field_end, e)

  pub named_ends : (q : ℕ) → look_up list p d.ty ≡ Some q → field_end list p from d ≡ end_within from (size_at list p) d.offset (size_at list q)
  unfolding field_end
  named_ends q e = rw (field_end, e)

-- One turn over the fields.

module _ (list : List ℕ) (p n from k : ℕ) where
  pub fields_bad : field_end list p from (field_at list p k) ≡ None → good_fields_in (suc n) list p from k ≡ false
  unfolding good_fields_in
  fields_bad e = rw (good_fields_in, e)

  pub fields_on : (end : ℕ) → field_end list p from (field_at list p k) ≡ Some end
      → good_fields_in (suc n) list p from k ≡ good_fields_in n list p end (suc k)
  unfolding good_fields_in
  fields_on end e = rw (good_fields_in, e)

-- What a good field is: its type's descriptor is found, it starts at or after `from`, and it fits.

pub record Fits (list : List ℕ) (p from : ℕ) (d : Field) : Type 0 where
  pub of : ℕ
  pub named : look_up list p d.ty ≡ Some of
  pub after : from ≤ d.offset
  pub inside : d.offset + size_at list of ≤ size_at list p

-- its end, in numbers
abbrev pub end_of : (list : List ℕ) (p from : ℕ) (d : Field) → Fits list p from d → ℕ
end_of list p from d f = d.offset + size_at list f.of

-- a field is good, and ends there; or it is bad
pub data Tried (list : List ℕ) (p from : ℕ) (d : Field) : Type 0 where
  fits : (f : Fits list p from d) → field_end list p from d ≡ Some (end_of list p from d f) → Tried list p from d
  unnamed : look_up list p d.ty ≡ None → field_end list p from d ≡ None → Tried list p from d
  early : (q : ℕ) → look_up list p d.ty ≡ Some q → d.offset < from → field_end list p from d ≡ None → Tried list p from d
  late :
      (q : ℕ) → look_up list p d.ty ≡ Some q → size_at list p < d.offset + size_at list q → field_end list p from d ≡ None
      → Tried list p from d

pub tried : (list : List ℕ) (p from : ℕ) (d : Field) → Tried list p from d
tried list p from d = go (look_up list p d.ty) refl
  where
    go : (r : Option ℕ) → look_up list p d.ty ≡ r → Tried list p from d
    go None e = unnamed e (unnamed_ends list p from d e)
    go (Some q) e =
        let ends = named_ends list p from d q e in
        by_bool (leb from d.offset)
        (λ t.
        by_bool (leb (d.offset + size_at list q) (size_at list p))
        (λ u.
        let fit : Fits list p from d = record { of = q; named = e; after = leb-true _ _ t; inside = leb-true _ _ u } in
        fits fit (grind (arith, common_steps)))
        (λ u. late q e (leb-false _ _ u) (grind (arith, common_steps))))
        (λ t. early q e (leb-false _ _ t) (grind (arith, common_steps)))

-- Good fields.

-- the first of them fits, and the others are good behind its end
pub record Turn (list : List ℕ) (p n from k : ℕ) : Type 0 where
  pub this : Fits list p from (field_at list p k)
  pub rest : good_fields_in n list p (end_of list p from (field_at list p k) this) (suc k) ≡ true

fields_turn : (list : List ℕ) (p n from k : ℕ) → good_fields_in (suc n) list p from k ≡ true → Turn list p n from k
fields_turn list p n from k g = go (tried list p from (field_at list p k))
  where
    bad : field_end list p from (field_at list p k) ≡ None → Turn list p n from k
    bad e = cc (g, fields_bad list p n from k e)

    go : Tried list p from (field_at list p k) → Turn list p n from k
    go (fits f e) = record { this = f; rest = sym (fields_on list p n from k _ e) ∙ g }
    go (unnamed a e) = bad e
    go (early q a b e) = bad e
    go (late q a b e) = bad e

-- a later start is an earlier one too
fits_from : (list : List ℕ) (p a b : ℕ) (d : Field) → a ≤ b → Fits list p b d → Fits list p a d
fits_from list p a b d l f = record { of = f.of; named = f.named; after = omega (arith, f.after); inside = f.inside }

-- each fits
pub fields_fit : (n : ℕ) (list : List ℕ) (p from k : ℕ) → good_fields_in n list p from k ≡ true → (j : ℕ) → k ≤ j → j < k + n
    → Fits list p from (field_at list p j)
fields_fit zero list p from k g j a b = absurd (omega arith)
fields_fit (suc n) list p from k g j a b =
    let t = fields_turn list p n from k g in
    let end = end_of list p from (field_at list p k) t.this in
    by_bool (ltb k j)
    (λ u.
    fits_from list p from end (field_at list p j) (omega (arith, t.this.after))
    (fields_fit n list p end (suc k) t.rest j (ltb-true k j u) (omega arith)))
    (λ u. subst (λ (x : ℕ). Fits list p from (field_at list p x)) (omega (arith, ltb-false k j u)) t.this)

-- each starts at or after the end of every field before it
pub fields_apart : (n : ℕ) (list : List ℕ) (p from k : ℕ) → good_fields_in n list p from k ≡ true → (i j : ℕ) → k ≤ i → i < j → j < k + n
    → (q : ℕ) → look_up list p (field_at list p i).ty ≡ Some q → (field_at list p i).offset + size_at list q ≤ (field_at list p j).offset
fields_apart zero list p from k g i j a b c q e = absurd (omega arith)
fields_apart (suc n) list p from k g i j a b c q e =
    let t = fields_turn list p n from k g in
    let end = end_of list p from (field_at list p k) t.this in
    by_bool (ltb k i)
    (λ u. fields_apart n list p end (suc k) t.rest i j (ltb-true k i u) b (omega arith) q e)
    (λ u.
    let i-is : i ≡ k = omega (arith, ltb-false k i u) in
    let of_is : q ≡ t.this.of = cc (e, ap (λ (x : ℕ). look_up list p (field_at list p x).ty) i-is, t.this.named) in
    let f = fields_fit n list p end (suc k) t.rest j (omega arith) (omega arith) in
    omega (arith, f.after, ap (λ (x : ℕ). (field_at list p x).offset) i-is, ap (λ (x : ℕ). size_at list x) of_is))
