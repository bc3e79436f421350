-- Layouts alone: the first gap, which block stands where, and that this and the size decide the layout. Assumes nothing.
use Rattle.std.proofs.Common.{Option, None, Some, ℕ, zero, suc, ◌+◌, ◌≤◌, ◌<◌, ◌≡◌, refl, cond, eqb, sym, ap, ◌∙◌, arith, eq-eqb, ne_eqb, eqb-true}
use Rattle.std.proofs.lemmas.Grind.{common_steps}
use Rattle.std.proofs.lemmas.Bool.{eqb-false}
use Rattle.block.specs.laws.Booleans.{by_bool}
use Rattle.history.proofs.Gaps.{Block, extent, Layout, last, item, size, gaps, GapOk, Ok, lookup}

-- the first gap
abbrev pub gap : Layout → ℕ
gap (last g) = g
gap (item g b l) = g

-- the layout with another first gap
abbrev pub regap : ℕ → Layout → Layout
regap n (last g) = last n
regap n (item g b l) = item n b l

-- a gap of 16 bytes or more is one, and a gap of any bytes has 16
pub gap_ok : (g : ℕ) → 16 ≤ g → GapOk g
gap_ok zero h = tt
gap_ok (suc g) h = h

pub gap_long : (g : ℕ) → GapOk g → 1 ≤ g → 16 ≤ g
gap_long zero k h = absurd (omega arith)
gap_long (suc g) k h = k

pub gap_of_ok : (l : Layout) → Ok l → GapOk (gap l)
gap_of_ok (last g) k = k
gap_of_ok (item g b l) k = k.0

pub regap_ok : (n : ℕ) (l : Layout) → GapOk n → Ok l → Ok (regap n l)
regap_ok n (last g) j k = j
regap_ok n (item g b l) j k = (j, k.1, k.2)

-- stated without a difference
pub regap-size : (n : ℕ) (l : Layout) → size (regap n l) + gap l ≡ size l + n
regap-size n (last g) = omega arith
regap-size n (item g b l) = omega arith

pub regap-gaps : (n : ℕ) (l : Layout) → gaps (regap n l) + gap l ≡ gaps l + n
regap-gaps n (last g) = omega arith
regap-gaps n (item g b l) = omega arith

pub gaps_le : (l : Layout) → gaps l ≤ size l
gaps_le (last g) = omega arith
gaps_le (item g b l) = omega (arith, gaps_le l)

pub gap_le : (l : Layout) → gap l ≤ size l
gap_le (last g) = omega arith
gap_le (item g b l) = omega arith

-- lookups

-- no lookup both fails and succeeds
pub clash : {A : Type 0} (x : A) → ◌≡◌ {A = Option A} None (Some x) → ⊥
clash x e = cc

-- behind the first gap stands the first block
pub look_first : (h g : ℕ) (b : Block) (l : Layout) → lookup h (item g b l) (h + g) ≡ Some b
unfolding lookup
look_first h g b l = rw (eq-eqb (h + g) (h + g) refl)

-- every other place is one of the rest
pub look_rest : (h g : ℕ) (b : Block) (l : Layout) (k : ℕ) → (k ≡ h + g → ⊥) → lookup h (item g b l) k ≡ lookup (h + g + extent b) l k
unfolding lookup
look_rest h g b l k n = rw (ne_eqb k (h + g) n)

-- only the place of the first block counts, not where its gap begins
pub look_regap : (h j n : ℕ) (l : Layout) (k : ℕ) → h + gap l ≡ j + n → lookup j (regap n l) k ≡ lookup h l k
unfolding lookup
look_regap h j n (last g) k e = refl
look_regap h j n (item g b l) k e = rw (← e)

-- a block stands inside the layout, and past its first gap
pub record Inside (h : ℕ) (l : Layout) (k : ℕ) (b : Block) : Type 0 where
  pub from : h + gap l ≤ k
  pub upto : k + extent b ≤ h + size l

pub look_inside : (h : ℕ) (l : Layout) (k : ℕ) (b : Block) → lookup h l k ≡ Some b → Inside h l k b
unfolding lookup
look_inside h (last g) k b e = absurd (clash b e)
look_inside h (item g a l) k b e =
    by_bool (eqb k (h + g))
    (λ p. let q : k ≡ h + g = eqb-true k (h + g) p in
    let r : a ≡ b = cc in
    let t : extent a ≡ extent b = ap extent r in
    record { from = omega arith; upto = omega arith })
    (λ p. let i : Inside (h + g + extent a) l k b = look_inside (h + g + extent a) l k b (rw p at e) in
    record { from = omega arith; upto = omega arith })

-- nothing stands before the end of the first gap
pub look_before : (h : ℕ) (l : Layout) (k : ℕ) → k < h + gap l → lookup h l k ≡ None
look_before h l k lt = go (lookup h l k) refl
  where
    go : (r : Option Block) → lookup h l k ≡ r → r ≡ None
    go None e = refl
    go (Some b) e = absurd (omega (arith, look_inside h l k b e))

-- two blocks do not overlap
pub look_apart : (h : ℕ) (l : Layout) (k j : ℕ) (b c : Block) → lookup h l k ≡ Some b → lookup h l j ≡ Some c → k < j → k + extent b ≤ j
unfolding lookup
look_apart h (last g) k j b c e f lt = absurd (clash b e)
look_apart h (item g a l) k j b c e f lt =
    by_bool (eqb k (h + g))
    (λ p. let q : k ≡ h + g = eqb-true k (h + g) p in
    let r : extent a ≡ extent b = ap extent (let w : a ≡ b = cc in w) in
    omega (arith, look_inside (h + g + extent a) l j c (rw (ne_eqb j (h + g) (λ z. omega arith)) at f)))
    (λ p. let e' : lookup (h + g + extent a) l k ≡ Some b = rw p at e in
    let i : Inside (h + g + extent a) l k b = look_inside (h + g + extent a) l k b e' in
    look_apart (h + g + extent a) l k j b c e' (rw (ne_eqb j (h + g) (λ z. omega arith)) at f) lt)

-- before the end of the first block stands that block alone
pub look_early : (h g : ℕ) (b : Block) (l : Layout) (k : ℕ) (c : Block) → k < h + g + extent b → lookup h (item g b l) k ≡ Some c → k + extent c ≤ h + g + extent b
unfolding lookup
look_early h g b l k c lt e =
    by_bool (eqb k (h + g))
    (λ p. let r : extent b ≡ extent c = ap extent (let w : b ≡ c = cc in w) in omega (arith, eqb-true k (h + g) p))
    (λ p. absurd (omega (arith, look_inside (h + g + extent b) l k c (rw p at e))))

-- tests of two places, in either order
pub two_tests : {A : Type 0} (k a b : ℕ) (x y z : A) → (a ≡ b → ⊥) → cond (eqb k a) x (cond (eqb k b) y z) ≡ cond (eqb k b) y (cond (eqb k a) x z)
two_tests k a b x y z n = grind (arith, common_steps, eqb-true)

-- a change at t in the rest is a change at t in the whole
pub look_under : (h g : ℕ) (b : Block) (l m : Layout) (t : ℕ) (x : Option Block) → h + g < t
    → ((k : ℕ) → lookup (h + g + extent b) m k ≡ cond (eqb k t) x (lookup (h + g + extent b) l k))
    → (k : ℕ) → lookup h (item g b m) k ≡ cond (eqb k t) x (lookup h (item g b l) k)
unfolding lookup
look_under h g b l m t x lt e k = grind (arith, common_steps, two_tests)

-- another block of the same extent is seen in its place, and nowhere else
pub look_swap : (h g : ℕ) (b c : Block) (l : Layout) → extent c ≡ extent b
    → (k : ℕ) → lookup h (item g c l) k ≡ cond (eqb k (h + g)) (Some c) (lookup h (item g b l) k)
unfolding lookup
look_swap h g b c l e k = rw e (by_bool (eqb k (h + g)) (λ p. rw p) (λ p. rw p))

-- Which block stands where, and the size, decide the layout.

-- behind the same gap and block, the rests of layouts that look the same look the same
rest_looks : (h g : ℕ) (b : Block) (l m : Layout) → ((k : ℕ) → lookup h (item g b l) k ≡ lookup h (item g b m) k)
    → (k : ℕ) → lookup (h + g + extent b) l k ≡ lookup (h + g + extent b) m k
rest_looks h g b l m e k =
    by_bool (eqb k (h + g))
    (λ p. let q : k ≡ h + g = eqb-true k (h + g) p in
    look_before (h + g + extent b) l k (omega arith) ∙ sym (look_before (h + g + extent b) m k (omega arith)))
    (λ p. let n : k ≡ h + g → ⊥ = eqb-false k (h + g) p in sym (look_rest h g b l k n) ∙ e k ∙ look_rest h g b m k n)

-- the first gaps are equal, since each layout sees the other's first block and none before its own
pub same_layout : (h : ℕ) (l m : Layout) → size l ≡ size m → ((k : ℕ) → lookup h l k ≡ lookup h m k) → l ≡ m
unfolding lookup
same_layout h (last g) (last f) z e = ap last z
same_layout h (last g) (item f c m) z e = absurd (clash c (e (h + f) ∙ look_first h f c m))
same_layout h (item g b l) (last f) z e = absurd (clash b (sym (e (h + g)) ∙ look_first h g b l))
same_layout h (item g b l) (item f c m) z e =
    let there : lookup h (item f c m) (h + g) ≡ Some b = sym (e (h + g)) ∙ look_first h g b l in
    let here : lookup h (item g b l) (h + f) ≡ Some c = e (h + f) ∙ look_first h f c m in
    let p : g ≡ f = omega (arith, look_inside h (item f c m) (h + g) b there, look_inside h (item g b l) (h + f) c here) in
    let both : ◌≡◌ {A = Option Block} (Some b) (Some c) = sym there ∙ ap (λ (n : ℕ). lookup h (item f c m) (h + n)) p ∙ look_first h f c m in
    let q : b ≡ c = cc in
    let x : extent b ≡ extent c = ap extent q in
    let r : l ≡ m =
    same_layout (h + g + extent b) l m (omega arith) (rest_looks h g b l m (λ k. e k ∙ (λ i. lookup h (item (sym p i) (sym q i) m) k)))
    in
    λ i. item (p i) (q i) (r i)
