-- Shapes that are kept: the lengths of image and table, and the entries beyond the used ones. Assumes nothing.
use Rattle.std.specs.Prelude.{ℕ, ◌≡◌, refl, length}
use Rattle.std.proofs.Common.{◌∙◌}
use Rattle.store.specs.State.{State}
use Rattle.store.specs.Claims.{KeepsShape}

-- nothing is written
pub shape_itself : (s : ℕ) (x : State) → KeepsShape s x x
unfolding KeepsShape
shape_itself s x = (refl, refl, refl)

-- one shape after the other
pub shape_then : (s : ℕ) (x y z : State) → KeepsShape s x y → KeepsShape s y z → KeepsShape s x z
unfolding KeepsShape
shape_then s x y z p q = (q.0 ∙ p.0, q.1 ∙ p.1, (rw p.0 at q.2) ∙ p.2)

-- the lengths stay
pub shape_lengths : (s : ℕ) (x y : State) → KeepsShape s x y → (length y.image ≡ length x.image) × (length y.table ≡ length x.table)
unfolding KeepsShape
shape_lengths s x y p = (p.0, p.1)
