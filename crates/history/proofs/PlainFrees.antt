-- What a free does to a heap of plain objects (`specs/laws/Plain`). Assumes nothing.
use Rattle.std.specs.Prelude.{ℕ, ◌+◌, ◌<◌, ◌≡◌, ◌++◌, length, take, drop, get_or}
use Rattle.store.specs.Step.{frees}
use Rattle.store.specs.State.{Answer}
use Rattle.history.specs.Heap.{Heap, hear}
use Rattle.history.specs.History.{Pairwise, header_of}
use Rattle.history.specs.Release.{answers}
use Rattle.history.specs.laws.Plain.{AllPlain, Held, answers_apart, answers-without, plain-without}

module _ (heap : Heap) (plain : AllPlain heap) where
  -- a free takes one out
  pub free_held : (i : ℕ) (a : Answer) → i < length heap → Pairwise heap (λ o o'. header_of o ≡ header_of o' → ⊥)
      → Held (hear heap (frees (get_or (answers heap) i 0)) a) (take i (answers heap) ++ drop (i + 1) (answers heap))
  unfolding hear
  free_held i a l apart =
      record {
        same = answers-without heap i l (answers_apart heap apart);
        plain = plain-without heap (get_or (answers heap) i 0) plain;
      }
