-- Type check before a cast: row 25, the answer, and the call's rows. Assumes nothing.
use Rattle.std.specs.Prelude.{ℕ, ◌≤◌, ◌<◌, ◌≡◌, Bool, true, false, cond, List, ◌⊎◌, length, leb, ℤ, pos, negsuc, nat_abs, Err, None, Ok, Option, Some}
use Rattle.std.proofs.Common.{sym, ap, ◌∙◌, subst, inl, inr, arith, le-leb, leb-true, leb-false, ltb-true}
use Rattle.std.proofs.Math.Path.{refl}
use Rattle.std.specs.Int.Signed.{lt_z}
use Rattle.std.proofs.lemmas.Bool.{lt-leb}
use Rattle.frame.specs.Pointers.{unpack}
use Rattle.block.specs.Layout.{type_at, size_at}
use Rattle.block.specs.laws.Booleans.{by_bool}
use Rattle.descriptors.specs.Descriptors.{look_up, good_list}
use Rattle.descriptors.specs.Descriptors as descriptors
use Rattle.descriptors.specs.Layouts.{type_has}
use Rattle.store.specs.State.{State, returned, value}
use Rattle.store.specs.Calls.{opening, located, from_start, described_by, described, has_at, cast_answer, has_type}
use Rattle.store.specs.laws.Refusals.{demand_met, and_then_met}
use Rattle.store.specs.declared.answer.Refusal.{Refusal}
use Rattle.store.specs.declared.answer.Refusal.TheVariants.{BadDescriptor, Undescribed}

-- Row 25, for an object of that type and raw size.

module _ (list : List ℕ) (type size : ℕ) where
  pub described_unlisted : look_up list (length list) type ≡ None → described list type size ≡ Err Undescribed
  unfolding described described_by
  described_unlisted e = rw e

  pub described_short : (q : ℕ) → look_up list (length list) type ≡ Some q → size < descriptors.size_at list q → described list type size ≡ Err Undescribed
  unfolding described described_by
  described_short q e l = rw (e, lt-leb (descriptors.size_at list q) size l)

  pub described-at : (q : ℕ) → look_up list (length list) type ≡ Some q → descriptors.size_at list q ≤ size → described list type size ≡ Ok q
  unfolding described described_by
  described-at q e l = rw (e, le-leb (descriptors.size_at list q) size l)

  -- its three ways out
  pub data Describing : Type 0 where
    unlisted : look_up list (length list) type ≡ None → described list type size ≡ Err Undescribed → Describing
    short :
        (q : ℕ) → look_up list (length list) type ≡ Some q → size < descriptors.size_at list q → described list type size ≡ Err Undescribed
        → Describing
    covering :
        (q : ℕ) → look_up list (length list) type ≡ Some q → descriptors.size_at list q ≤ size → described list type size ≡ Ok q → Describing

  pub describing : Describing
  describing = go (look_up list (length list) type) refl
    where
      go : (r : Option ℕ) → look_up list (length list) type ≡ r → Describing
      go None e = unlisted e (described_unlisted e)
      go (Some q) e =
          by_bool (leb (descriptors.size_at list q) size)
          (λ t. let l = leb-true (descriptors.size_at list q) size t in covering q e l (described-at q e l))
          (λ t. let l = leb-false (descriptors.size_at list q) size t in short q e l (described_short q e l))

  -- what a passed row says: the type is found at q, and described with no more bytes
  abbrev Covers : ℕ → Type 0
  Covers q = (look_up list (length list) type ≡ Some q) × (descriptors.size_at list q ≤ size)

  pub described_parts : (q : ℕ) → described list type size ≡ Ok q → Covers q
  described_parts q e = go describing
    where
      refused : described list type size ≡ Err Undescribed → Covers q
      refused d = let z : Ok q ≡ Err Undescribed = sym e ∙ d in cc

      go : Describing → Covers q
      go (unlisted f d) = refused d
      go (short p f l d) = refused d
      go (covering p f l d) =
          let same : p ≡ q = ap value (sym d ∙ e) in
          (f ∙ ap Some same, subst (λ (x : ℕ). descriptors.size_at list x ≤ size) same l)

-- The answer, at a signed distance.

module _ (list : List ℕ) (wanted q : ℕ) where
  -- by its sign
  pub has_offset : (o : ℕ) → has_at list wanted q (pos o) ≡ cond (type_has list wanted q o) 1 0
  unfolding has_at
  has_offset o = refl

  pub has_negative : (n : ℕ) → has_at list wanted q (negsuc n) ≡ 0
  unfolding has_at
  has_negative n = refl

  -- before the base
  pub has_before : (d : ℤ) → lt_z d (pos 0) ≡ true → has_at list wanted q d ≡ 0
  has_before (pos o) t = let l = ltb-true o 0 t in absurd (omega arith)
  has_before (negsuc n) t = has_negative n

  -- at it or behind it
  pub has_behind : (d : ℤ) → lt_z d (pos 0) ≡ false → (b : Bool) → type_has list wanted q (nat_abs d) ≡ b → has_at list wanted q d ≡ cond b 1 0
  has_behind (pos o) t b e = has_offset o ∙ ap (λ (x : Bool). cond x 1 0) e
  has_behind (negsuc n) t b e = cc

-- What follows of row 25.

module _ (list : List ℕ) (wanted type size : ℕ) (d : ℤ) where
  pub cast_undescribed : (r : Refusal) → described list type size ≡ Err r → cast_answer list wanted type size d ≡ Err r
  unfolding cast_answer
  cast_undescribed r e = rw e

  pub cast_described : (q : ℕ) → described list type size ≡ Ok q → cast_answer list wanted type size d ≡ Ok (has_at list wanted q d)
  unfolding cast_answer
  cast_described q e = rw e

  -- it comes to 0 or 25
  pub cast_number : (returned (cast_answer list wanted type size d) ≡ 0) ⊎ (returned (cast_answer list wanted type size d) ≡ 25)
  cast_number = go (describing list type size)
    where
      go : Describing list type size → (returned (cast_answer list wanted type size d) ≡ 0) ⊎ (returned (cast_answer list wanted type size d) ≡ 25)
      go (unlisted f e) = inr (ap returned (cast_undescribed Undescribed e))
      go (short q f l e) = inr (ap returned (cast_undescribed Undescribed e))
      go (covering q f l e) = inl (ap returned (cast_described q e))

-- The call's rows.

module _ (list : List ℕ) (word wanted : ℕ) (x : State) where
  -- row 4 or 5
  pub has_type_shut : (r : Refusal) → opening x ≡ Err r → has_type list word wanted x ≡ Err r
  unfolding has_type
  has_type_shut r e = rw e

  module _ (s : ℕ) (e : opening x ≡ Ok s) where
    -- row 24
    pub has_type_bad : good_list list ≡ false → has_type list word wanted x ≡ Err BadDescriptor
    unfolding has_type
    has_type_bad g = rw (e, g)

    module _ (g : good_list list ≡ true) where
      -- row 10 or 11
      pub has_type_unread : (r : Refusal) → located s (unpack word) x ≡ Err r → has_type list word wanted x ≡ Err r
      unfolding has_type
      has_type_unread r l = rw (e, g, l)

      -- row 25, or the answer
      pub has_type_cast : (h : ℕ) → located s (unpack word) x ≡ Ok h
          → has_type list word wanted x ≡ cast_answer list wanted (type_at x.image h) (size_at x.image h) (from_start h (unpack word))
      unfolding has_type
      has_type_cast h l = rw (e, g, l)

  -- what an accepted check has passed
  pub record Checked : Type 0 where
    pub exponent : ℕ
    pub place : ℕ
    pub position : ℕ
    pub opens : opening x ≡ Ok exponent
    pub good : good_list list ≡ true
    pub object : located exponent (unpack word) x ≡ Ok place
    pub describes : described list (type_at x.image place) (size_at x.image place) ≡ Ok position

  pub has_type_parts : (v : ℕ) → has_type list word wanted x ≡ Ok v → Checked
  unfolding has_type cast_answer
  has_type_parts v e =
      let (s, opens, rest) = and_then_met (opening x) _ v e in
      let (good, rest) = demand_met (good_list list) BadDescriptor _ v rest in
      let (h, object, rest) = and_then_met (located s (unpack word) x) _ v rest in
      let (q, describes, rest) = and_then_met (described list (type_at x.image h) (size_at x.image h)) _ v rest in
      record { exponent = s; place = h; position = q; opens = opens; good = good; object = object; describes = describes }
