-- Moves: the wrapped sum of address and distance lands where the sum of the integers does. Assumes nothing.
use Rattle.std.specs.Prelude.{◌≡◌, ℕ, suc, ◌+◌, ◌-◌, ◌%◌, ◌≤◌, ◌^◌, ltb, ℤ, pos, negsuc, FitsSigned}
use Rattle.std.proofs.Common.{ap, ⊎_elim, arith, le-ltb, ltb-true, ltb-false, w64, to_z, of_z}
use Rattle.std.proofs.Math.Facts.{to_z-of_z}
use Rattle.std.proofs.lemmas.Bool.{cases_Bool}
use Rattle.std.specs.Int.{cast_unsigned}
use Rattle.frame.specs.Pointers.{InRange, landed, moved}
use Rattle.frame.specs.declared.parts.Pointer.{Pointer}

-- a negative sum wraps to a number above every address
wrapped : (p : Pointer) (n : ℕ) (d : ℤ) (t : ℕ) → InRange p → FitsSigned w64 d → t ≡ (p.address + cast_unsigned w64 d) % 2 ^ 64 → landed p n (pos t) ≡ moved p n d
unfolding moved landed
wrapped p n (pos k) t r f e =
    let a = r.address in
    let b = f.sfits in
    let sum : t ≡ p.address + k = omega arith in
    ap (λ (x : ℕ). landed p n (pos x)) sum
wrapped p n (negsuc k) t r f e =
    let a = r.address in
    let b = f.sfits in
    ⊎_elim
    (λ l. let high : 2 ^ 48 ≤ t = omega (arith, ltb-true _ _ l) in rw l (simp (le-ltb t (2 ^ 48) high)))
    (λ l. let sum : t ≡ p.address - suc k = omega (arith, ltb-false _ _ l) in rw l (ap (λ (x : ℕ). landed p n (pos x)) sum))
    (cases_Bool (ltb p.address (suc k)))

-- the same, of the distance as the machine has it
pub moved_wrapped : (p : Pointer) (n : ℕ) (d : ℤ) (t : ℕ) → InRange p → FitsSigned w64 d → t ≡ (p.address + cast_unsigned w64 (to_z w64 (of_z w64 d))) % 2 ^ 64
    → landed p n (pos t) ≡ moved p n d
moved_wrapped p n d t r f e = wrapped p n d t r f (rw (to_z-of_z f) at e)
