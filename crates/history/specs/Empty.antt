-- Objects of no bytes after every history begun by set-up: document 02, W9. That their pointers lead to them, that no other live object has the same one, and
-- what free, release and distances answer, `Holds` says of every size. Assumes nothing.
use Rattle.std.specs.Prelude.{ℕ, ◌≡◌, true}
use Rattle.store.specs.Claims.{NoLoad, NoAccess}
use Rattle.history.specs.Heap.{Object, holds}
use Rattle.history.specs.History.{Configuration, In, AfterEveryHistory}

-- a claim about each pointer of each live object of no bytes
abbrev pub EachEmptyLive : Configuration → (ℕ → Type 0) → Type 0
EachEmptyLive x P = (o : Object) → In o x.heap → o.size ≡ 0 → (p : ℕ) → holds o p ≡ true → P p

-- On these histories no load succeeds through such a pointer.
unfoldable pub NoEmptyLoads : Type 0
NoEmptyLoads = AfterEveryHistory (λ s x. EachEmptyLive x (λ p. NoLoad p x.state))

-- Nor does a store, fill, copy, compare or text copy, whatever its other pointer.
unfoldable pub NoEmptyAccess : Type 0
NoEmptyAccess = AfterEveryHistory (λ s x. EachEmptyLive x (λ p. NoAccess p x.state))
