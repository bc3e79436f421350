-- The first of a list that has the least f. Assumes nothing.
use Rattle.std.proofs.Common.{ℕ, zero, suc, ◌≤◌, ◌<◌, ◌≡◌, refl, length, get_or, ltb, List, [], ◌∷◌, ◌++◌, sym, ap, ◌∙◌, length-append, subst, append-nil, arith, ltb-true, ltb-false, lt-ltb, le-ltb}
use Rattle.std.proofs.Math.ListN.{get_or-append}
use Rattle.std.proofs.Math.Seq.{append_snoc, get_or-append_seam}
use Rattle.block.specs.laws.Booleans.{by_bool}
use Rattle.placement.specs.Placement.{least_from, first_least}

module _ (f : List ℕ → ℕ) where
  -- `best` has the least f of those in `seen`, and is the first of them that has
  pub record IsFirstLeast (seen : List (List ℕ)) (best : List ℕ) : Type 0 where
    pub index : ℕ
    pub inside : index < length seen
    pub is : get_or seen index [] ≡ best
    pub least : (i : ℕ) → i < length seen → f best ≤ f (get_or seen i [])
    pub first : (i : ℕ) → i < index → f best < f (get_or seen i [])

  -- one more is seen: it is the least, or it is not

  pub takes : (best order : List ℕ) (rest : List (List ℕ)) → f order < f best → least_from f best (order ∷ rest) ≡ least_from f order rest
  unfolding least_from
  takes best order rest l = rw (lt-ltb (f order) (f best) l)

  pub keeps : (best order : List ℕ) (rest : List (List ℕ)) → f best ≤ f order → least_from f best (order ∷ rest) ≡ least_from f best rest
  unfolding least_from
  keeps best order rest l = rw (le-ltb (f order) (f best) l)

  -- a claim about what is seen holds with one more
  with_one : (P : List ℕ → Type 0) (seen : List (List ℕ)) (order : List ℕ) → ((i : ℕ) → i < length seen → P (get_or seen i [])) → P order
      → (i : ℕ) → i < length (seen ++ (order ∷ [])) → P (get_or (seen ++ (order ∷ [])) i [])
  with_one P seen order all one i h =
      by_bool (ltb i (length seen))
      (λ t. subst P (sym (get_or-append seen (order ∷ []) [] i (ltb-true i (length seen) t))) (all i (ltb-true i (length seen) t)))
      (λ t.
      let e : i ≡ length seen = omega (arith, ltb-false i (length seen) t, length-append seen (order ∷ [])) in
      let s : get_or (seen ++ (order ∷ [])) i [] ≡ order = ap (λ (k : ℕ). get_or (seen ++ (order ∷ [])) k []) e ∙ get_or-append_seam seen order [] [] in
      subst P (sym s) one)

  least_more : (seen : List (List ℕ)) (best order : List ℕ) → IsFirstLeast seen best → f best ≤ f order → IsFirstLeast (seen ++ (order ∷ [])) best
  least_more seen best order now l =
      let before : (i : ℕ) → i < length seen → get_or (seen ++ (order ∷ [])) i [] ≡ get_or seen i [] = get_or-append seen (order ∷ []) [] in
      record {
        index = now.index;
        inside = omega (arith, now.inside, length-append seen (order ∷ []));
        is = before now.index now.inside ∙ now.is;
        least = with_one (λ o. f best ≤ f o) seen order now.least l;
        first = λ i h. subst (λ (o : List ℕ). f best < f o) (sym (before i (omega (arith, now.inside)))) (now.first i h);
      }

  fewer_more : (seen : List (List ℕ)) (best order : List ℕ) → IsFirstLeast seen best → f order < f best → IsFirstLeast (seen ++ (order ∷ [])) order
  fewer_more seen best order now l =
      record {
        index = length seen;
        inside = omega (arith, length-append seen (order ∷ []));
        is = get_or-append_seam seen order [] [];
        least = with_one (λ o. f order ≤ f o) seen order (λ i h. omega (arith, now.least i h)) (omega arith);
        first = λ i h. subst (λ (o : List ℕ). f order < f o) (sym (get_or-append seen (order ∷ []) [] i h)) (omega (arith, now.least i h));
      }

  least_on : (rest seen : List (List ℕ)) (best : List ℕ) → IsFirstLeast seen best → IsFirstLeast (seen ++ rest) (least_from f best rest)
  unfolding least_from
  least_on [] seen best now = subst (λ (l : List (List ℕ)). IsFirstLeast l best) (sym (append-nil seen)) now
  least_on (order ∷ rest) seen best now =
      let regroup : (b : List ℕ) → IsFirstLeast ((seen ++ (order ∷ [])) ++ rest) b → IsFirstLeast (seen ++ (order ∷ rest)) b =
      λ b w. subst (λ (l : List (List ℕ)). IsFirstLeast l b) (append_snoc seen order rest) w in
      by_bool (ltb (f order) (f best))
      (λ t.
      let l = ltb-true (f order) (f best) t in
      subst (IsFirstLeast (seen ++ (order ∷ rest))) (sym (takes best order rest l))
      (regroup (least_from f order rest) (least_on rest (seen ++ (order ∷ [])) order (fewer_more seen best order now l))))
      (λ t.
      let l = ltb-false (f order) (f best) t in
      subst (IsFirstLeast (seen ++ (order ∷ rest))) (sym (keeps best order rest l))
      (regroup (least_from f best rest) (least_on rest (seen ++ (order ∷ [])) best (least_more seen best order now l))))

  pub first_least_lem : (orders : List (List ℕ)) → 0 < length orders → IsFirstLeast orders (first_least f orders)
  unfolding first_least
  first_least_lem [] h = absurd (omega arith)
  first_least_lem (order ∷ rest) h =
      least_on rest (order ∷ []) order
      (record { index = 0; inside = omega arith; is = refl; least = only; first = λ i l. absurd (omega arith) })
    where
      only : (i : ℕ) → i < 1 → f order ≤ f (get_or (order ∷ []) i [])
      only zero l = omega arith
      only (suc i) l = absurd (omega arith)
