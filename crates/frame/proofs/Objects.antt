-- What rests on the wrapper frames' two laws, that the frame holds the whole object and that no two objects share one: the pointer to an object is one of
-- its pointers, and large-framed objects have entries of their own. Not here: those two laws (`specs/laws/Wrappers`). Assumes nothing.
use Rattle.std.specs.Prelude.{ℕ, ◌+◌, ◌/◌, ◌*◌, ◌^◌, ◌≤◌, ◌<◌, ◌≡◌}
use Rattle.std.proofs.Common.{sym, ap, ◌∙◌, le_refl, arith, pow_pos}
use Rattle.std.proofs.Math.Nat.{eq_of_mul-eq-mul_right}
use Rattle.frame.specs.Frame.{frame_start}
use Rattle.frame.specs.Pointers.{pack, reach, at}
use Rattle.frame.specs.Tags.{wrapper, pointer_to, entry_of}
use Rattle.frame.specs.laws.Wrappers.{wrapper-holds, wrapper-at_most, entry_frame, wrappers_apart}
use Rattle.frame.specs.laws.Tags.{pointer_small, pointer_large, pointer_at, by_frame}
use Rattle.frame.specs.laws.Objects.{PointerOf, unpack_pointer, unpack_address}

-- Entries.

-- so two large-framed ones never have the same entry
pub entries_apart : (s h₁ size₁ h₂ size₂ : ℕ) → h₁ + 16 + size₁ ≤ h₂ → h₂ + 16 + size₂ ≤ 2 ^ 30
    → s < wrapper h₁ size₁ → s < wrapper h₂ size₂ → entry_of s h₁ size₁ ≡ entry_of s h₂ size₂ → ⊥
entries_apart s h₁ size₁ h₂ size₂ behind u k₁ k₂ e =
    let N = wrapper h₁ size₁ in
    let m₁ = wrapper-at_most h₁ size₁ (omega arith) in
    let m₂ = wrapper-at_most h₂ size₂ u in
    let r = entry_frame s N h₁ (wrapper h₂ size₂) h₂ k₁ k₂ (omega arith) (omega arith) e in
    let starts : h₁ / 2 ^ N * 2 ^ N ≡ h₂ / 2 ^ N * 2 ^ N = r.0 ∙ ap (λ (n : ℕ). frame_start n h₂) (sym r.1) in
    wrappers_apart h₁ size₁ h₂ size₂ behind r.1 (eq_of_mul-eq-mul_right (2 ^ N) (pow_pos N) (h₁ / 2 ^ N) (h₂ / 2 ^ N) starts)

-- The pointer to an object.

module _ (s h size : ℕ) (few : s ≤ 15) (inside : h + 16 + size ≤ 2 ^ 30) where
  -- its address stands in the header's slot or frame
  pub pointer_reach : (h + 16) / 2 ^ reach s (pointer_to s h size) ≡ h / 2 ^ reach s (pointer_to s h size)
  unfolding reach
  pointer_reach =
      by_frame s h size
      (λ l. rw (pointer_small s h size l) (wrapper-holds s h size (h + 16) (omega arith) (omega arith) l))
      (λ l. rw (pointer_large s h size l) (wrapper-holds (wrapper h size) h size (h + 16) (omega arith) (omega arith) (le_refl (wrapper h size))))

  -- put together, it is one of its pointers
  pub own_pointer : PointerOf s h size (pack (pointer_to s h size))
  own_pointer =
      record {
        shape = unpack_pointer s h size few inside ∙ sym (pointer_at s h size) ∙ ap (at (pointer_to s h size)) (sym (unpack_address s h size few inside));
        near = ap (λ (a : ℕ). a / 2 ^ reach s (pointer_to s h size)) (unpack_address s h size few inside) ∙ pointer_reach;
      }
