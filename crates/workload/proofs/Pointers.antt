-- The live pointers: one more, by what an allocation answers; one less. Assumes nothing.
use Rattle.std.proofs.Common.{◌≡◌, ℕ, ◌+◌, ◌-◌, ◌<◌, ◌≤◌, List, [], ◌∷◌, ◌++◌, length, take, drop, refl, Err, Ok, sym, ap, ap₂, ◌∙◌, arith, length-drop, take-take}
use Rattle.std.specs.List.{copy_within}
use Rattle.std.proofs.lemmas.List.{drop-take}
use Rattle.std.proofs.lemmas.List.Edits.{take-paste}
use Rattle.store.specs.State.{returned, value}
use Rattle.store.specs.laws.Refusals.{refused_some}
use Rattle.store.specs.State.{Answer}
use Rattle.workload.specs.Choice.{remove_at, joined}

-- none more, where the number is not 0
pub joined_none : (a : Answer) (n : ℕ) (ps : List ℕ) → n ≡ returned a → (n ≡ 0 → ⊥) → ps ≡ joined a ps
joined_none (Ok v) n ps e d = absurd (d e)
joined_none (Err r) n ps e d = refl

-- the value behind the others, where it is
pub joined_one : (a : Answer) (n p : ℕ) (ps : List ℕ) → n ≡ returned a → n ≡ 0 → p ≡ value a → ps ++ (p ∷ []) ≡ joined a ps
joined_one (Ok v) n p ps e z q = rw q refl
joined_one (Err r) n p ps e z q = absurd (refused_some r (sym e ∙ z))

-- the first `count` of an array, when those behind position i have moved down by one
pub removed : (held : List ℕ) (i count : ℕ) → i < count → count ≤ length held
    → take (count - 1) (copy_within held (i + 1) count i) ≡ remove_at i (take count held)
unfolding remove_at
removed held i count l m =
    let n : ℕ = count - (i + 1) in
    let d : length (drop (i + 1) held) ≡ length held - (i + 1) = length-drop (i + 1) held in
    let less : i + n ≡ count - 1 = omega arith in
    let sum : i + 1 + n ≡ count = omega arith in
    ap (λ (k : ℕ). take k (copy_within held (i + 1) count i)) (sym less)
    ∙ take-paste held i (drop (i + 1) held) n (omega arith) (omega arith)
    ∙ ap₂ ◌++◌ (sym (take-take i count held (omega arith))) (sym (drop-take (i + 1) n held) ∙ ap (λ (k : ℕ). drop (i + 1) (take k held)) sum)
