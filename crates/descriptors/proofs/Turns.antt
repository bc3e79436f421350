-- The loops of `find_type` and `good_fields`, turn by turn. Assumes nothing.
use Rattle.std.proofs.Common.{ℕ, suc, ◌+◌, ◌-◌, ◌≤◌, ◌<◌, ◌≡◌, refl, true, false, List, None, Some, sym, ◌∙◌, add-one, arith}
use Rattle.descriptors.specs.Descriptors.{descriptor_at, field_at, WholeTo, start, look_up_in, look_up, field_end, good_fields_in}
use Rattle.descriptors.specs.laws.Lookups.{step, lookup-end, lookup-found, lookup_on}
use Rattle.descriptors.specs.laws.Fields.{fields_bad, fields_on}
use Rattle.descriptors.specs.declared.descriptor.Descriptor.{Descriptor}

-- The search for a type: what is left of it from p on comes to what the whole search comes to.

pub record Searching (list : List ℕ) (end type p : ℕ) : Type 0 where
  pub whole : WholeTo list p
  pub steps : ℕ
  pub enough : end ≤ p + steps
  pub same : look_up_in (suc steps) list end type p ≡ look_up list end type

pub search_begins : (list : List ℕ) (end type : ℕ) → Searching list end type 0
unfolding look_up
search_begins list end type = record { whole = start; steps = end; enough = omega arith; same = refl }

module _ (list : List ℕ) (end type p : ℕ) (now : Searching list end type p) where
  pub search_ends : end ≤ p → None ≡ look_up list end type
  search_ends l = sym (lookup-end list (suc now.steps) end type p l) ∙ now.same

  -- the descriptor d is read at p, before the end
  module _ (l : p < end) (d : Descriptor) (is : d ≡ descriptor_at list p) where
    pub search_finds : d.ty ≡ type → Some p ≡ look_up list end type
    search_finds e = sym (lookup-found list now.steps end type p l (rw is at e)) ∙ now.same

    pub search_goes_on : WholeTo list end → (d.ty ≡ type → ⊥) → Searching list end type (p + d.length)
    search_goes_on we n =
        let t = step list p end now.whole we l in
        let left : suc (now.steps - 1) ≡ now.steps = omega arith in
        rw is
        (record {
          whole = t.reached;
          steps = now.steps - 1;
          enough = omega (arith, t.long);
          same = rw left (sym (lookup_on list now.steps end type p l (rw is at n)) ∙ now.same);
        })

-- The fields from field k on, behind `from`, of n fields in all.

module _ (list : List ℕ) (p n from k : ℕ) where
  pub fields_end : n ≤ k → good_fields_in (n - k) list p from k ≡ true
  unfolding good_fields_in
  fields_end l = let z : n - k ≡ 0 = omega arith in rw z

  one_left : k < n → n - k ≡ suc (n - (k + 1))
  one_left l = omega arith

  pub fields_fail : k < n → field_end list p from (field_at list p k) ≡ None → good_fields_in (n - k) list p from k ≡ false
  fields_fail l e = rw (one_left l) (fields_bad list p (n - (k + 1)) from k e)

  pub fields_go_on : (end : ℕ) → k < n → field_end list p from (field_at list p k) ≡ Some end
      → good_fields_in (n - k) list p from k ≡ good_fields_in (n - (k + 1)) list p end (k + 1)
  fields_go_on end l e = rw (one_left l) (fields_on list p (n - (k + 1)) from k end e ∙ rw add-one)
