-- The claim on the type check before a cast. Assumes nothing.
use Rattle.std.specs.Prelude.{Err, Ok, ℕ, ◌≤◌, ◌≡◌, refl, Bool, true, false, cond, List, ◌⊎◌, ◌↔◌, length, ℤ, pos, negsuc}
use Rattle.std.proofs.Common.{sym, ap, ◌∙◌, subst, inl, inr, arith}
use Rattle.frame.specs.Pointers.{unpack}
use Rattle.block.specs.Layout.{type_at, size_at}
use Rattle.block.specs.laws.Booleans.{refuted}
use Rattle.descriptors.specs.Descriptors.{good_list}
use Rattle.descriptors.specs.Descriptors as descriptors
use Rattle.descriptors.specs.Layouts.{type_has}
use Rattle.descriptors.specs.Claims.{Describes, Has}
use Rattle.descriptors.specs.laws.Lookups.{missed}
use Rattle.descriptors.specs.laws.Lists.{end_reached, describes_stands, described_once, lookup-at, lookup_describes}
use Rattle.descriptors.specs.laws.Bad.{some_bad, none_bad, unless_bad}
use Rattle.descriptors.specs.laws.Layouts.{computed_has, has_computed}
use Rattle.store.specs.State.{State, returned, refusal_number, value}
use Rattle.store.specs.Calls.{opening, located, from_start, described, has_at, cast_answer, has_type}
use Rattle.store.specs.Claims.{Castable, HasWanted, Undescribes, ChecksCasts}
use Rattle.store.specs.laws.Refusals.{accepted_is}
use Rattle.store.specs.laws.TagReading.{located_refusal}
use Rattle.store.specs.laws.Distances.{start-at}
use Rattle.store.specs.laws.Casts.{described-at, described_parts, Describing, unlisted, short, covering, describing, has_offset, has_negative, cast_undescribed, cast_described, cast_number, has_type_shut, has_type_bad, has_type_unread, has_type_cast, has_type_parts}
use Rattle.store.specs.declared.answer.Refusal.TheVariants.{Undescribed}
use Rattle.store.specs.State.{Answer}

-- Row 25, on a good list.

module _ (list : List ℕ) (g : good_list list ≡ true) (type size : ℕ) where
  described_covering : (q : ℕ) → Describes list (length list) type q → descriptors.size_at list q ≤ size → described list type size ≡ Ok q
  described_covering q d l = described-at list type size q (lookup-at list g (length list) type q (end_reached list g) d) l

  -- the descriptor that covers the object
  covers : (q : ℕ) → described list type size ≡ Ok q → Describes list (length list) type q × (descriptors.size_at list q ≤ size)
  covers q e = let (f, l) = described_parts list type size q e in (lookup_describes list g type q f, l)

  -- 25 exactly where none does
  undescribed : (wanted : ℕ) (d : ℤ) → (returned (cast_answer list wanted type size d) ≡ 25) ↔ Undescribes list type size
  undescribed wanted d = go (describing list type size)
    where
      refused : described list type size ≡ Err Undescribed → returned (cast_answer list wanted type size d) ≡ 25
      refused e = ap returned (cast_undescribed list wanted type size d Undescribed e)

      go : Describing list type size → (returned (cast_answer list wanted type size d) ≡ 25) ↔ Undescribes list type size
      go (unlisted f e) = ((λ t. inl (λ q. missed list (length list) type q (end_reached list g) f)), λ u. refused e)
      go (short q f l e) = ((λ t. inr (q, lookup_describes list g type q f, l)), λ u. refused e)
      go (covering q f l e) = (
        (λ t. absurd (omega (arith, ap returned (cast_described list wanted type size d q e), t))),
        (λ u. absurd (none u)),
      )
        where
          none : Undescribes list type size → ⊥
          none (inl n) = n q (lookup_describes list g type q f)
          none (inr (p, e, m)) =
              let same : p ≡ q = described_once list g p q type e (lookup_describes list g type q f) in
              omega (arith, l, m, ap (λ (x : ℕ). descriptors.size_at list x) same)

-- The answer.

yes_is : (b : Bool) → ◌≡◌ {A = ℕ} (cond b 1 0) 1 → b ≡ true
yes_is true e = refl
yes_is false e = absurd (omega arith)

module _ (list : List ℕ) (p wanted : ℕ) (x : State) (h q : ℕ) (c : Castable list p x h q) where
  good : good_list list ≡ true
  good = unless_bad list c.none_bad

  answer_is : has_type list p wanted x ≡ Ok (has_at list wanted q (from_start h (unpack p)))
  answer_is =
      has_type_cast list p wanted x c.exponent c.opens good h c.object
      ∙ cast_described list wanted (type_at x.image h) (size_at x.image h) (from_start h (unpack p)) q
      (described_covering list good (type_at x.image h) (size_at x.image h) q c.described c.covered)

  says_has : has_at list wanted q (from_start h (unpack p)) ≡ 1 → HasWanted list p wanted x h
  says_has e = go (from_start h (unpack p)) refl e
    where
      go : (z : ℤ) → from_start h (unpack p) ≡ z → has_at list wanted q z ≡ 1 → HasWanted list p wanted x h
      go (pos o) d t =
          record {
            offset = o;
            distance = (start-at h (unpack p) o).0 d;
            has =
                subst (λ (y : ℕ). Has list y wanted o) c.described.type_is
                (computed_has list wanted q o (describes_stands list good (type_at x.image h) q c.described)
                (yes_is (type_has list wanted q o) (sym (has_offset list wanted q o) ∙ t)));
          }
      go (negsuc n) d t = absurd (omega (arith, has_negative list wanted q n, t))

  has_says : HasWanted list p wanted x h → has_at list wanted q (from_start h (unpack p)) ≡ 1
  has_says w =
      ap (has_at list wanted q) ((start-at h (unpack p) w.offset).1 w.distance)
      ∙ has_offset list wanted q w.offset
      ∙ ap (λ (b : Bool). cond b 1 0) (has_computed list good (type_at x.image h) wanted w.offset w.has q c.described)

  -- no other answer than 0 and 1
  says_no : (has_at list wanted q (from_start h (unpack p)) ≡ 1 → ⊥) → has_at list wanted q (from_start h (unpack p)) ≡ 0
  says_no n = go (from_start h (unpack p)) refl
    where
      go : (z : ℤ) → from_start h (unpack p) ≡ z → has_at list wanted q (from_start h (unpack p)) ≡ 0
      go (pos o) d =
          ap (has_at list wanted q) d ∙ has_offset list wanted q o
          ∙ ap (λ (b : Bool). cond b 1 0)
          (refuted (type_has list wanted q o)
          (λ t. n (ap (has_at list wanted q) d ∙ has_offset list wanted q o ∙ ap (λ (b : Bool). cond b 1 0) t)))
      go (negsuc m) d = ap (has_at list wanted q) d ∙ has_negative list wanted q m

  yes : (has_type list p wanted x ≡ Ok 1) ↔ HasWanted list p wanted x h
  yes = (
    (λ e. let v : Ok (has_at list wanted q (from_start h (unpack p))) ≡ Ok 1 = sym answer_is ∙ e in says_has (ap value v)),
    λ w. answer_is ∙ ap Ok (has_says w),
  )

  no : (has_type list p wanted x ≡ Ok 0) ↔ (HasWanted list p wanted x h → ⊥)
  no = (
    (λ e w. omega (arith, has_says w, ap value (sym answer_is ∙ e))),
    λ n. answer_is ∙ ap Ok (says_no (λ e. n (says_has e))),
  )

-- The rows.

module _ (list : List ℕ) (p wanted : ℕ) (x : State) where
  accepted : (returned (has_type list p wanted x) ≡ 0) ↔ ((h q : ℕ) × Castable list p x h q)
  accepted = (
    (λ e.
        let c = has_type_parts list p wanted x _ (accepted_is (has_type list p wanted x) e) in
        let d = covers list c.good (type_at x.image c.place) (size_at x.image c.place) c.position c.describes in (
          c.place,
          c.position,
          record {
            exponent = c.exponent;
            opens = c.opens;
            none_bad = none_bad list c.good;
            object = c.object;
            described = d.0;
            covered = d.1;
          },
        )),
    λ (h, q, c). ap returned (answer_is list p wanted x h q c),
  )

  -- on a good list 24 never comes
  not_bad : (s : ℕ) → opening x ≡ Ok s → good_list list ≡ true → returned (has_type list p wanted x) ≡ 24 → ⊥
  not_bad s e g t = go (located s (unpack p) x) refl
    where
      go : (a : Answer) → located s (unpack p) x ≡ a → ⊥
      go (Err r) l =
          let n : refusal_number r ≡ 24 = sym (ap returned (has_type_unread list p wanted x s e g r l)) ∙ t in
          omega (arith, (located_refusal s (unpack p) x r l).1, n)
      go (Ok h) l = rows (cast_number list wanted (type_at x.image h) (size_at x.image h) (from_start h (unpack p)))
        where
          rows :
              let n : ℕ = returned (cast_answer list wanted (type_at x.image h) (size_at x.image h) (from_start h (unpack p))) in
              (n ≡ 0) ⊎ (n ≡ 25) → ⊥
          rows (inl i) = omega (arith, i, ap returned (has_type_cast list p wanted x s e g h l), t)
          rows (inr i) = omega (arith, i, ap returned (has_type_cast list p wanted x s e g h l), t)

pub checks_casts : ChecksCasts
unfolding ChecksCasts
checks_casts list p wanted x =
    record {
      accepted = accepted list p wanted x;
      yes = λ h q c. yes list p wanted x h q c;
      no = λ h q c. no list p wanted x h q c;
      shut = λ r e. has_type_shut list p wanted x r e;
      bad_list = λ s e. (
        (λ t. some_bad list (refuted (good_list list) (λ g. not_bad list p wanted x s e g t))),
        λ b. ap returned (has_type_bad list p wanted x s e (refuted (good_list list) (λ g. none_bad list g b))),
      );
      unread = λ s r e n l. has_type_unread list p wanted x s e (unless_bad list n) r l;
      undescribed = λ s h e n l.
          let given = has_type_cast list p wanted x s e (unless_bad list n) h l in
          let (to, back) =
          undescribed list (unless_bad list n) (type_at x.image h) (size_at x.image h) wanted (from_start h (unpack p))
          in
          ((λ t. to (sym (ap returned given) ∙ t)), λ u. ap returned given ∙ back u);
    }
