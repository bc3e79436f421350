-- What a release leaves after every history begun by set-up, by the abstract heap's own answers: document 02, W6. Assumes nothing.
use Rattle.std.specs.Prelude.{ℕ, ◌^◌, ◌<◌, ◌≡◌, ◌↔◌, List, [], ◌∷◌}
use Rattle.store.specs.Calls.{free_each, release_cue}
use Rattle.store.specs.Claims.{EachFreed}
use Rattle.history.specs.Heap.{Object, Heap}
use Rattle.history.specs.History.{Configuration, Pairwise, In, header_of, AfterEveryHistory}

-- allocate's answers for the objects
unfoldable pub answers : Heap → List ℕ
answers [] = []
answers (o ∷ os) = o.answer ∷ answers os

-- the cue's live objects, in the order of their addresses, can be freed singly by allocate's answers, and that leaves what the release leaves
pub record FreedSingly (x : Configuration) (cue : ℕ) : Type 0 where
  pub objects : Heap
  pub ascending : Pairwise objects (λ o o'. header_of o < header_of o')
  pub of_cue_lem : (o : Object) → In o objects ↔ (In o x.heap × (o.cue ≡ cue))
  pub each_freed : EachFreed (answers objects) x.state
  pub same : (release_cue cue x.state).after ≡ free_each (answers objects) x.state

-- On these histories every release does so.
unfoldable pub ReleasesSingly : Type 0
ReleasesSingly = AfterEveryHistory (λ s x. (cue : ℕ) → cue < 2 ^ 32 → FreedSingly x cue)
