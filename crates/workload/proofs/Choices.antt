-- What a draw asks for.
-- In order: when it allocates; the three choices, and that a pointer in one is a live one. Assumes nothing.
use Rattle.std.proofs.Common.{◌≡◌, ℕ, ◌+◌, ◌/◌, ◌%◌, ◌^◌, ◌<◌, ◌≤◌, true, false, eqb, ltb, List, length, get_or, refl, sym, subst, mod-lt, arith, ltb-false, ltb-true, eq-eqb, ne_eqb, eqb-true}
use Rattle.std.proofs.lemmas.Bool.{eqb-false}
use Rattle.block.specs.laws.Booleans.{by_bool}
use Rattle.workload.specs.Choice.{position, allocates, choice_of}
use Rattle.workload.specs.declared.choosing.Choice.{Choice}
use Rattle.workload.specs.declared.choosing.Choice.TheVariants.{Allocate, Free, Store}

-- a draw that allocates has room for a pointer
allocates_room : (v n : ℕ) → allocates v n ≡ true → n < 64
unfolding allocates
allocates_room v n e =
    by_bool (ltb (v % 4) 2) (λ t. ltb-true n 64 (rw t at e)) (λ f. let z : n ≡ 0 = eqb-true n 0 (rw f at e) in omega arith)

-- one that does not has a pointer to take
allocates_some : (v n : ℕ) → allocates v n ≡ false → 1 ≤ n
unfolding allocates
allocates_some v n e =
    by_bool (ltb (v % 4) 2)
    (λ t. let l : 64 ≤ n = ltb-false n 64 (rw t at e) in omega arith)
    (λ f. let z : n ≡ 0 → ⊥ = eqb-false n 0 (rw f at e) in omega arith)

module _ (v : ℕ) (ps : List ℕ) where
  -- the three choices
  choice_allocates : allocates v (length ps) ≡ true → choice_of v ps ≡ Allocate (1 + v / 256 % 97)
  unfolding choice_of
  choice_allocates e = rw e refl

  choice_stores : allocates v (length ps) ≡ false → v % 4 ≡ 3 → choice_of v ps ≡ Store (get_or ps (position v (length ps)) 0) (v % 256)
  unfolding choice_of
  choice_stores e t = rw (e, eq-eqb (v % 4) 3 t) refl

  choice_frees : allocates v (length ps) ≡ false → (v % 4 ≡ 3 → ⊥) → choice_of v ps ≡ Free (position v (length ps)) (get_or ps (position v (length ps)) 0)
  unfolding choice_of
  choice_frees e t = rw (e, ne_eqb (v % 4) 3 t) refl

-- What is known of a choice: an allocation has a size that fits and room for its pointer, and the pointer in another stands in a position.
pub data Chosen (ps : List ℕ) : Choice → Type 0 where
  allocation : (size : ℕ) → 0 < size → size < 2 ^ 32 → length ps < 64 → Chosen ps (Allocate size)
  freeing : (i : ℕ) → i < length ps → Chosen ps (Free i (get_or ps i 0))
  storing : (i byte : ℕ) → i < length ps → byte < 256 → Chosen ps (Store (get_or ps i 0) byte)

pub chosen : (v : ℕ) (ps : List ℕ) → Chosen ps (choice_of v ps)
chosen v ps =
    let i : ℕ = position v (length ps) in
    by_bool (allocates v (length ps))
    (λ t. subst (Chosen ps) (sym (choice_allocates v ps t))
    (let l : v / 256 % 97 < 97 = mod-lt (v / 256) (omega arith) in
    allocation (1 + v / 256 % 97) (omega arith) (omega arith) (allocates_room v (length ps) t)))
    (λ f.
    let l : i < length ps = mod-lt (v / 256) (allocates_some v (length ps) f) in
    by_bool (eqb (v % 4) 3)
    (λ t. subst (Chosen ps) (sym (choice_stores v ps f (eqb-true (v % 4) 3 t))) (storing i (v % 256) l (mod-lt v (omega arith))))
    (λ t. subst (Chosen ps) (sym (choice_frees v ps f (eqb-false (v % 4) 3 t))) (freeing i l)))
