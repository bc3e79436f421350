-- The check of a list, test by test and turn by turn: a field, the fields, a shape, a head, a descriptor, the list. Assumes nothing.
use Rattle.std.proofs.Common.{ℕ, zero, suc, ◌+◌, ◌-◌, ◌/◌, ◌%◌, ◌≤◌, ◌<◌, ◌≡◌, refl, true, false, List, length, leb, ltb, eqb, None, Option, Some, sym, ap, ◌∙◌, add-one, arith, eq-eqb, ne_eqb, le-leb}
use Rattle.std.proofs.lemmas.Bool.{lt-leb}
use Rattle.std.proofs.Math.Bool.{and-false}
use Rattle.std.proofs.Math.Nat.{sub-zero}
use Rattle.descriptors.specs.Descriptors.{descriptor_at, length_at, type_at, size_at, field_at, WholeTo, start, look_up, end_within, field_end, good_fields_in, good_shape, good_head, good_descriptor, good_from_in, good_list}
use Rattle.descriptors.specs.laws.Lookups.{whole-inside}
use Rattle.descriptors.specs.laws.Fields.{named_ends, fields_bad, fields_on}
use Rattle.descriptors.specs.laws.Lists.{headed-length, headed-over, good_parts}
use Rattle.descriptors.specs.declared.descriptor.Descriptor.{Descriptor}
use Rattle.descriptors.specs.declared.descriptor.Field.{Field}

-- Where a field ends, by what was read of its record and of its type.
pub field-ends : (list : List ℕ) (p from : ℕ) (f : Field) (q size : ℕ) (d : Descriptor) → look_up list p f.ty ≡ Some q → size ≡ size_at list p
    → d ≡ descriptor_at list q → end_within from size f.offset d.size ≡ field_end list p from f
field-ends list p from f q size d l s r =
    ap (λ (x : ℕ). end_within from x f.offset d.size) s
    ∙ ap (λ (x : Descriptor). end_within from (size_at list p) f.offset x.size) r ∙ sym (named_ends list p from f q l)

-- The fields: what is left from field k on, behind `from`, says what all fields say.

pub record Fielding (list : List ℕ) (p n from k : ℕ) : Type 0 where
  pub inside : k ≤ n
  pub same : good_fields_in (n - k) list p from k ≡ good_fields_in n list p 0 0

pub fielding_begins : (list : List ℕ) (p n : ℕ) → Fielding list p n 0 0
fielding_begins list p n = record { inside = omega arith; same = ap (λ (m : ℕ). good_fields_in m list p 0 0) (sub-zero n) }

module _ (list : List ℕ) (p n from k : ℕ) (now : Fielding list p n from k) where
  pub fielding_ends : k ≡ n → true ≡ good_fields_in n list p 0 0
  unfolding good_fields_in
  fielding_ends e =
      let z : 0 ≡ n - k = omega arith in
      ap (λ (m : ℕ). good_fields_in m list p from k) z ∙ now.same

  -- by the field that was read, and what was said of its end
  module _ (ne : k ≡ n → ⊥) (f : Field) (is : f ≡ field_at list p k) (r : Option ℕ) (said : r ≡ field_end list p from f) where
    one_left : n - k ≡ suc (n - (k + 1))
    one_left = omega (arith, now.inside, ne)

    said_here : field_end list p from (field_at list p k) ≡ r
    said_here = ap (field_end list p from) (sym is) ∙ sym said

    pub fielding_fails : r ≡ None → false ≡ good_fields_in n list p 0 0
    fielding_fails e =
        sym (fields_bad list p (n - (k + 1)) from k (said_here ∙ e))
        ∙ ap (λ (m : ℕ). good_fields_in m list p from k) (sym one_left) ∙ now.same

    pub fielding_goes_on : (end : ℕ) → r ≡ Some end → Fielding list p n end (k + 1)
    fielding_goes_on end e =
        record {
          inside = omega (arith, now.inside);
          same =
              ap (λ (m : ℕ). good_fields_in (n - (k + 1)) list p end m) (add-one k)
              ∙ sym (fields_on list p (n - (k + 1)) from k end (said_here ∙ e))
              ∙ ap (λ (m : ℕ). good_fields_in m list p from k) (sym one_left) ∙ now.same;
        }

-- A shape.

module _ (d : Descriptor) where
  pub shape_plain : d.kind ≡ 4 → eqb d.length 12 ≡ good_shape d
  shape_plain e = rw (eq-eqb d.kind 4 e)

  pub shape_unknown : (d.kind ≡ 4 → ⊥) → (d.kind ≡ 5 → ⊥) → false ≡ good_shape d
  shape_unknown e f = rw (ne_eqb d.kind 4 e, ne_eqb d.kind 5 f)

  pub shape_short : (d.kind ≡ 4 → ⊥) → d.length < 12 → false ≡ good_shape d
  shape_short e l = rw (ne_eqb d.kind 4 e, lt-leb 12 d.length l, and-false)

  pub shape_record : (d.kind ≡ 4 → ⊥) → d.kind ≡ 5 → 12 ≤ d.length → eqb ((d.length - 12) % 6) 0 ≡ good_shape d
  shape_record e f l = rw (ne_eqb d.kind 4 e, eq-eqb d.kind 5 f, le-leb 12 d.length l)

-- A head, by the descriptor that was read.

module _ (list : List ℕ) (p : ℕ) where
  pub head_missing : length list < p + 12 → good_head list p ≡ false
  head_missing l = rw (lt-leb (p + 12) (length list) l)

  module _ (d : Descriptor) (is : d ≡ descriptor_at list p) where
    length_is : d.length ≡ length_at list p
    length_is = ap (λ (x : Descriptor). x.length) is

    pub head_cut : length list < p + d.length → good_head list p ≡ false
    head_cut l = rw (lt-leb (p + length_at list p) (length list) (omega (arith, length_is)), and-false (leb (p + 12) (length list)))

    pub head_shapeless : good_shape d ≡ false → good_head list p ≡ false
    head_shapeless g =
        rw (sym (ap good_shape is) ∙ g, and-false (leb (p + length_at list p) (length list)), and-false (leb (p + 12) (length list)))

    pub head_by_size : p + 12 ≤ length list → p + d.length ≤ length list → good_shape d ≡ true → ltb 0 d.size ≡ good_head list p
    head_by_size h l g =
        ap (λ (x : Descriptor). ltb 0 x.size) is
        ∙ sym (rw (le-leb (p + 12) (length list) h, le-leb (p + length_at list p) (length list) (omega (arith, length_is)), sym (ap good_shape is) ∙ g))

-- A descriptor.

module _ (list : List ℕ) (p : ℕ) where
  pub descriptor_headless : good_head list p ≡ false → good_descriptor list p ≡ false
  unfolding good_descriptor
  descriptor_headless g = rw (good_descriptor, g)

  module _ (good : good_head list p ≡ true) (d : Descriptor) (is : d ≡ descriptor_at list p) where
    type_is : look_up list p d.ty ≡ look_up list p (type_at list p)
    type_is = ap (λ (x : Descriptor). look_up list p x.ty) is

    -- its type is described before it
    pub descriptor_again : (q : ℕ) → look_up list p d.ty ≡ Some q → good_descriptor list p ≡ false
    unfolding good_descriptor
    descriptor_again q e = rw (good_descriptor, good, sym type_is ∙ e)

    -- it is not: the fields tell
    pub descriptor_by_fields : look_up list p d.ty ≡ None → good_fields_in ((d.length - 12) / 6) list p 0 0 ≡ good_descriptor list p
    unfolding good_descriptor
    descriptor_by_fields e =
        ap (λ (x : Descriptor). good_fields_in ((x.length - 12) / 6) list p 0 0) is ∙ sym (rw (good_descriptor, good, sym type_is ∙ e))

-- The list: what is left from p on says what the whole list says.

pub record Checking (list : List ℕ) (p : ℕ) : Type 0 where
  pub whole : WholeTo list p
  pub steps : ℕ
  pub enough : length list < p + steps
  pub same : good_from_in steps list p ≡ good_list list

pub checking_begins : (list : List ℕ) → Checking list 0
unfolding good_list
checking_begins list = record { whole = start; steps = suc (length list); enough = omega arith; same = refl }

module _ (list : List ℕ) (p : ℕ) (now : Checking list p) where
  -- a claim about the next step: there is one
  by_step : {P : Type 0} → ((k : ℕ) → length list < p + suc k → good_from_in (suc k) list p ≡ good_list list → P) → P
  by_step {P} f = go now.steps now.enough now.same
    where
      go : (k : ℕ) → length list < p + k → good_from_in k list p ≡ good_list list → P
      go zero h s = absurd (omega (arith, whole-inside list p now.whole))
      go (suc k) h s = f k h s

  pub checking_ends : p ≡ length list → true ≡ good_list list
  unfolding good_from_in
  checking_ends e = by_step (λ k h s. rw (good_from_in, eq-eqb p (length list) e) at s)

  module _ (ne : p ≡ length list → ⊥) where
    pub checking_fails : good_descriptor list p ≡ false → false ≡ good_list list
    unfolding good_from_in
    checking_fails g = by_step (λ k h s. rw (good_from_in, ne_eqb p (length list) ne, g) at s)

    pub checking_goes_on : good_descriptor list p ≡ true → Checking list (p + length_at list p)
    unfolding good_from_in
    checking_goes_on g =
        let h = (good_parts list p g).at_head in
        by_step
        (λ k e s.
        record {
          whole = headed-over list p now.whole h;
          steps = k;
          enough = omega (arith, headed-length list p h);
          same = rw (good_from_in, ne_eqb p (length list) ne, g) at s;
        })
