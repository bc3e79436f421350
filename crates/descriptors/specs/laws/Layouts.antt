-- Which type has which at an offset: what is computed, the relation, and that one field alone need be asked. Assumes nothing.
use Rattle.std.proofs.Common.{ℕ, zero, suc, ◌+◌, ◌-◌, ◌≤◌, ◌<◌, ◌≡◌, refl, sym, ap, subst, ◌∙◌, le_trans, None, Option, Some, Bool, false, ◌&&◌, ◌||◌, List, length, ltb, eqb, true, arith, leb, le-leb, eq-eqb, leb-true, leb-false, ltb-true, ltb-false, eqb-true}
use Rattle.std.proofs.lemmas.Bool.{lt-leb, eqb-false}
use Rattle.std.proofs.lemmas.Grind.{common_steps}
use Rattle.block.specs.laws.Booleans.{by_bool, refuted}
use Rattle.descriptors.specs.Descriptors.{type_at, size_at, field_count, field_at, WholeTo, look_up, good_list, Stands}
use Rattle.descriptors.specs.Layouts.{any_below, field_has, type_has_in, type_has, last_starting}
use Rattle.descriptors.specs.Claims.{Describes, Has, itself, by_field}
use Rattle.descriptors.specs.laws.Lookups.{found_at, found_describes}
use Rattle.descriptors.specs.laws.Fields.{fields_apart}
use Rattle.descriptors.specs.laws.Lists.{good_here, field_fits, named_stands, stands_describes, describes_stands, described_once}
use Rattle.descriptors.specs.declared.descriptor.Field.{Field}

-- A test of the numbers below n.

or_true : (a b : Bool) → b ≡ true → a || b ≡ true
or_true true b h = refl
or_true false b h = h

any_some : (test : ℕ → Bool) (n : ℕ) → any_below test n ≡ true → (k : ℕ) × (k < n) × (test k ≡ true)
unfolding any_below
any_some test zero e = cc
any_some test (suc n) e =
    by_bool (any_below test n)
    (λ t. let (k, l, u) = any_some test n t in (k, omega arith, u))
    (λ t. (n, omega arith, rw t at e))

some_any : (test : ℕ → Bool) (n k : ℕ) → k < n → test k ≡ true → any_below test n ≡ true
unfolding any_below
some_any test zero k l e = absurd (omega arith)
some_any test (suc n) k l e =
    by_bool (ltb k n)
    (λ t. rw (some_any test n k (ltb-true k n t) e) refl)
    (λ t. let last : n ≡ k = omega (arith, ltb-false k n t) in or_true (any_below test n) (test n) (rw last e))

any_same : (f g : ℕ → Bool) (n : ℕ) → ((k : ℕ) → k < n → f k ≡ g k) → any_below f n ≡ any_below g n
unfolding any_below
any_same f g zero e = refl
any_same f g (suc n) e =
    ap (λ (b : Bool). b || f n) (any_same f g n (λ k l. e k (omega arith))) ∙ ap (λ (b : Bool). any_below g n || b) (e n (omega arith))

any_none : (test : ℕ → Bool) (n : ℕ) → ((j : ℕ) → j < n → test j ≡ false) → any_below test n ≡ false
unfolding any_below
any_none test zero e = refl
any_none test (suc n) e = ap (λ (b : Bool). b || test n) (any_none test n (λ j l. e j (omega arith))) ∙ e n (omega arith)

any_only : (test : ℕ → Bool) (n k : ℕ) → k < n → ((j : ℕ) → j < n → (j ≡ k → ⊥) → test j ≡ false) → any_below test n ≡ test k
any_only test n k l e =
    by_bool (test k)
    (λ t. some_any test n k l t ∙ sym t)
    (λ t. any_none test n (λ j m. by_bool (eqb j k) (λ u. ap test (eqb-true j k u) ∙ t) (λ u. e j m (eqb-false j k u))) ∙ sym t)

-- What a field has.

module _ (has : ℕ → ℕ → Bool) (list : List ℕ) (p o : ℕ) (d : Field) where
  -- what it asks of its type
  record FieldHas : Type 0 where
    pub of : ℕ
    pub starts : d.offset ≤ o
    pub named : look_up list p d.ty ≡ Some of
    pub has_it : has of (o - d.offset) ≡ true

  field_has_parts : field_has has list p o d ≡ true → FieldHas
  unfolding field_has
  field_has_parts h =
      by_bool (leb d.offset o)
      (λ t. go t (look_up list p d.ty) refl)
      (λ t. grind (arith, common_steps))
    where
      go : leb d.offset o ≡ true → (r : Option ℕ) → look_up list p d.ty ≡ r → FieldHas
      go t (Some q) e = record { of = q; starts = leb-true _ _ t; named = e; has_it = rw (field_has, t, e) at h }
      go t None e = grind (arith, common_steps)

  -- its three ways out
  pub field_at_lem : (q : ℕ) → d.offset ≤ o → look_up list p d.ty ≡ Some q → field_has has list p o d ≡ has q (o - d.offset)
  unfolding field_has
  field_at_lem q l e = rw (field_has, le-leb _ _ l, e)

  field-before : o < d.offset → field_has has list p o d ≡ false
  unfolding field_has
  field-before l = rw (field_has, lt-leb _ _ l)

  pub field_unnamed : d.offset ≤ o → look_up list p d.ty ≡ None → field_has has list p o d ≡ false
  unfolding field_has
  field_unnamed l e = rw (field_has, le-leb _ _ l, e)

-- it asks only of types before p
field-same : (f g : ℕ → ℕ → Bool) (list : List ℕ) (p o : ℕ) (d : Field) → WholeTo list p
    → ((q r : ℕ) → WholeTo list q → q < p → f q r ≡ g q r) → field_has f list p o d ≡ field_has g list p o d
field-same f g list p o d w e =
    by_bool (leb d.offset o)
    (λ t. go (leb-true _ _ t) (look_up list p d.ty) refl)
    (λ t. field-before f list p o d (leb-false _ _ t) ∙ sym (field-before g list p o d (leb-false _ _ t)))
  where
    go : d.offset ≤ o → (r : Option ℕ) → look_up list p d.ty ≡ r → field_has f list p o d ≡ field_has g list p o d
    go l (Some q) n =
        let t = found_at list p d.ty q w n in
        field_at_lem f list p o d q l n ∙ e q (o - d.offset) t.whole t.before ∙ sym (field_at_lem g list p o d q l n)
    go l None n = field_unnamed f list p o d l n ∙ sym (field_unnamed g list p o d l n)

-- What a type has, without a count of steps.

-- it is the wanted one, at its own start
abbrev pub is_wanted : List ℕ → ℕ → ℕ → ℕ → Bool
is_wanted list wanted p o = eqb (type_at list p) wanted && eqb o 0

-- a field has it
abbrev some_field_has : List ℕ → ℕ → ℕ → ℕ → Bool
some_field_has list wanted p o = any_below (λ k. field_has (type_has list wanted) list p o (field_at list p k)) (field_count list p)

-- the count of steps is never used up
in_enough : (k n : ℕ) (list : List ℕ) (wanted p o : ℕ) → WholeTo list p → p < k → p < n
    → type_has_in k list wanted p o ≡ type_has_in n list wanted p o
unfolding type_has_in
in_enough zero n list wanted p o w hk hn = absurd (omega arith)
in_enough (suc k) zero list wanted p o w hk hn = absurd (omega arith)
in_enough (suc k) (suc n) list wanted p o w hk hn =
    ap (λ (b : Bool). is_wanted list wanted p o || b)
    (any_same _ _ (field_count list p)
    (λ j l.
    field-same (λ q r. type_has_in k list wanted q r) (λ q r. type_has_in n list wanted q r) list p o (field_at list p j) w
    (λ q r wq m. in_enough k n list wanted q r wq (omega arith) (omega arith))))

-- a type has it when it is it and o is 0, or when a field has it
type_has_is : (list : List ℕ) (wanted p o : ℕ) → WholeTo list p
    → type_has list wanted p o ≡ is_wanted list wanted p o || some_field_has list wanted p o
unfolding type_has type_has_in
type_has_is list wanted p o w =
    ap (λ (b : Bool). is_wanted list wanted p o || b)
    (any_same _ _ (field_count list p)
    (λ j l.
    field-same (λ q r. type_has_in p list wanted q r) (λ q r. type_has_in (suc q) list wanted q r) list p o (field_at list p j) w
    (λ q r wq m. in_enough p (suc q) list wanted q r wq m (omega arith))))

-- On a good list what is computed is the relation.

module _ (list : List ℕ) where
  has_in : (steps wanted p o : ℕ) → Stands list p → type_has_in steps list wanted p o ≡ true → Has list (type_at list p) wanted o
  unfolding type_has_in
  has_in zero wanted p o s h = cc
  has_in (suc steps) wanted p o s h =
      by_bool (is_wanted list wanted p o)
      (λ t.
      let a : wanted ≡ type_at list p = grind (arith, common_steps) in
      let b : 0 ≡ o = grind (arith, common_steps) in
      subst (λ (x : ℕ). Has list (type_at list p) wanted x) b (subst (λ (x : ℕ). Has list x wanted 0) a (itself wanted)))
      (λ t.
      let (k, m, u) = any_some _ (field_count list p) (rw t at h) in
      let d = field_at list p k in
      let f = field_has_parts (λ q r. type_has_in steps list wanted q r) list p o d u in
      let i : Has list d.ty wanted (o - d.offset) =
      subst (λ (x : ℕ). Has list x wanted (o - d.offset)) (found_at list p d.ty f.of s.whole f.named).type_is
      (has_in steps wanted f.of (o - d.offset) (named_stands list p s d.ty f.of f.named) f.has_it)
      in
      subst (λ (x : ℕ). Has list (type_at list p) wanted x) (omega (arith, f.starts))
      (by_field (type_at list p) p k wanted (o - d.offset) (stands_describes list p s) m i))

  pub computed_has : (wanted p o : ℕ) → Stands list p → type_has list wanted p o ≡ true → Has list (type_at list p) wanted o
  unfolding type_has
  computed_has wanted p o s h = has_in (suc p) wanted p o s h

  pub has_computed : good_list list ≡ true → (type wanted o : ℕ) → Has list type wanted o → (p : ℕ) → Describes list (length list) type p
      → type_has list wanted p o ≡ true
  has_computed g _ _ _ (itself type) p d =
      type_has_is list type p 0 (describes_stands list g type p d).whole
      ∙ ap (λ (b : Bool). (b && true) || some_field_has list type p 0) (eq-eqb (type_at list p) type d.type_is)
  has_computed g _ _ _ (by_field type p' k wanted o d' m h) p d =
      subst (λ (x : ℕ). type_has list wanted x ((field_at list p' k).offset + o) ≡ true) (described_once list g p' p type d' d)
      (let s = describes_stands list g type p' d' in
      let at = (field_at list p' k).offset + o in
      let f = field_fits list p' s k m in
      let q = found_describes list p' (field_at list p' k).ty f.of (found_at list p' (field_at list p' k).ty f.of s.whole f.named) in
      let inner =
      has_computed g (field_at list p' k).ty wanted o h f.of
      (record { boundary = q.boundary; before = omega (arith, q.before, s.inside); type_is = q.type_is })
      in
      let field : field_has (type_has list wanted) list p' at (field_at list p' k) ≡ true =
      field_at_lem (type_has list wanted) list p' at (field_at list p' k) f.of (omega arith) f.named
      ∙ ap (λ (x : ℕ). type_has list wanted f.of x) (omega arith) ∙ inner
      in
      type_has_is list wanted p' at s.whole
      ∙ or_true (is_wanted list wanted p' at) _
      (some_any (λ j. field_has (type_has list wanted) list p' at (field_at list p' j)) (field_count list p') k m field))

  -- nothing is had at a type's end or past it
  ends_in : (steps wanted p o : ℕ) → Stands list p → type_has_in steps list wanted p o ≡ true → o < size_at list p
  unfolding type_has_in
  ends_in zero wanted p o s h = cc
  ends_in (suc steps) wanted p o s h =
      by_bool (is_wanted list wanted p o)
      (λ t. grind (arith, common_steps, (good_here list p s).at_head.some_size))
      (λ t.
      let (k, m, u) = any_some _ (field_count list p) (rw t at h) in
      let d = field_at list p k in
      let f = field_has_parts (λ q r. type_has_in steps list wanted q r) list p o d u in
      let i = field_fits list p s k m in
      let same : f.of ≡ i.of = cc (f.named, i.named) in
      let inner = ends_in steps wanted f.of (o - d.offset) (named_stands list p s d.ty f.of f.named) f.has_it in
      omega (arith, inner, f.starts, i.inside, ap (λ (x : ℕ). size_at list x) same))

  pub had_inside : (wanted p o : ℕ) → Stands list p → type_has list wanted p o ≡ true → o < size_at list p
  unfolding type_has
  had_inside wanted p o s h = ends_in (suc p) wanted p o s h

  -- a field that ends at or before o has nothing there
  field_past : (wanted p o k q : ℕ) → Stands list p → look_up list p (field_at list p k).ty ≡ Some q
      → (field_at list p k).offset + size_at list q ≤ o → field_has (type_has list wanted) list p o (field_at list p k) ≡ false
  field_past wanted p o k q s n h =
      refuted (field_has (type_has list wanted) list p o (field_at list p k))
      (λ t.
      let d = field_at list p k in
      let f = field_has_parts (type_has list wanted) list p o d t in
      let same : f.of ≡ q = cc (f.named, n) in
      let inner = had_inside wanted f.of (o - d.offset) (named_stands list p s d.ty f.of f.named) f.has_it in
      omega (arith, inner, f.starts, ap (λ (x : ℕ). size_at list x) same))

-- The last field that starts at or before o.

module _ (list : List ℕ) (p o : ℕ) where
  pub record LastAt (n k : ℕ) : Type 0 where
    pub below : k < n
    pub starts : (field_at list p k).offset ≤ o
    pub last : (j : ℕ) → k < j → j < n → o < (field_at list p j).offset

  pub last_at : (n k : ℕ) → last_starting list p o n ≡ Some k → LastAt n k
  unfolding last_starting
  last_at zero k e = cc
  last_at (suc n) k e =
      by_bool (leb (field_at list p n).offset o)
      (λ t.
      let here : k ≡ n = cc (rw (last_starting, t) at e) in
      rw here (record { below = omega arith; starts = leb-true _ _ t; last = λ j a b. absurd (omega arith) }))
      (λ t.
      let i = last_at n k (rw (last_starting, t) at e) in
      record {
        below = omega (arith, i.below);
        starts = i.starts;
        last = λ j a b.
            by_bool (ltb j n)
            (λ u. i.last j a (ltb-true j n u))
            (λ u. subst (λ (x : ℕ). o < (field_at list p x).offset) (omega (arith, ltb-false j n u)) (leb-false _ _ t));
      })

  last_none : (n : ℕ) → last_starting list p o n ≡ None → (j : ℕ) → j < n → o < (field_at list p j).offset
  unfolding last_starting
  last_none zero e j l = absurd (omega arith)
  last_none (suc n) e j l =
      by_bool (leb (field_at list p n).offset o)
      (λ t. cc (rw (last_starting, t) at e))
      (λ t.
      by_bool (ltb j n)
      (λ u. last_none n (rw (last_starting, t) at e) j (ltb-true j n u))
      (λ u. subst (λ (x : ℕ). o < (field_at list p x).offset) (omega (arith, ltb-false j n u)) (leb-false _ _ t)))

  -- the turns of the search for it, from the last field down
  pub last_ended : (k : ℕ) → k ≤ 0 → last_starting list p o k ≡ None
  unfolding last_starting
  last_ended zero e = refl
  last_ended (suc k) e = absurd (omega arith)

  pub last_found : (k : ℕ) → 0 < k → (field_at list p (k - 1)).offset ≤ o → last_starting list p o k ≡ Some (k - 1)
  unfolding last_starting
  last_found zero n l = absurd (omega arith)
  last_found (suc k) n l = let e : suc k - 1 ≡ k = omega arith in rw (e, last_starting, le-leb _ _ (rw e at l))

  pub last_on : (k : ℕ) → 0 < k → o < (field_at list p (k - 1)).offset → last_starting list p o k ≡ last_starting list p o (k - 1)
  unfolding last_starting
  last_on zero n l = absurd (omega arith)
  last_on (suc k) n l = let e : suc k - 1 ≡ k = omega arith in rw (e, last_starting, lt-leb _ _ (rw e at l))

-- The ways out of a search: only the last field that starts at or before o can have it.

module _ (list : List ℕ) (wanted p o : ℕ) (s : Stands list p) where
  by_fields : (b : Bool) → is_wanted list wanted p o ≡ b → type_has list wanted p o ≡ b || some_field_has list wanted p o
  by_fields b e = type_has_is list wanted p o s.whole ∙ ap (λ (x : Bool). x || some_field_has list wanted p o) e

  pub type_itself : is_wanted list wanted p o ≡ true → type_has list wanted p o ≡ true
  type_itself e = by_fields true e

  pub type_no_field : is_wanted list wanted p o ≡ false → last_starting list p o (field_count list p) ≡ None → type_has list wanted p o ≡ false
  type_no_field e n =
      by_fields false e
      ∙ any_none (λ k. field_has (type_has list wanted) list p o (field_at list p k)) (field_count list p)
      (λ j m. field-before (type_has list wanted) list p o (field_at list p j) (last_none list p o (field_count list p) n j m))

  pub type_by_field : (k : ℕ) → is_wanted list wanted p o ≡ false → last_starting list p o (field_count list p) ≡ Some k
      → type_has list wanted p o ≡ field_has (type_has list wanted) list p o (field_at list p k)
  type_by_field k e n =
      let i = last_at list p o (field_count list p) k n in
      by_fields false e
      ∙ any_only (λ k. field_has (type_has list wanted) list p o (field_at list p k)) (field_count list p) k i.below
      (λ j m d.
      by_bool (ltb k j)
      (λ u. field-before (type_has list wanted) list p o (field_at list p j) (i.last j (ltb-true k j u) m))
      (λ u.
      let f = field_fits list p s j m in
      field_past list wanted p o j f.of s f.named
      (le_trans
      (fields_apart (field_count list p) list p 0 0 (good_here list p s).fields j k (omega arith) (omega (arith, ltb-false k j u, d))
      (omega (arith, i.below)) f.of f.named)
      i.starts)))
