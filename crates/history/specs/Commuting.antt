-- Two frees or two releases in either order, after every history begun by set-up: document 02, W11. Assumes nothing.
use Rattle.std.specs.Prelude.{ℕ, ◌^◌, ◌<◌, ◌≡◌}
use Rattle.store.specs.State.{State, Outcome, IsAccepted}
use Rattle.store.specs.Calls.{free, release_cue}
use Rattle.history.specs.Heap.{Object}
use Rattle.history.specs.History.{Configuration, Pairwise, AfterEveryHistory}

-- Two calls commute: each is accepted, first or second, with the same answer, and whichever goes first, they leave the same image and table.
pub record Commute (a b : State → Outcome) (x : State) : Type 0 where
  pub a_accepted : IsAccepted (a x)
  pub b_accepted : IsAccepted (b x)
  pub a_answer : (a (b x).after).answer ≡ (a x).answer
  pub b_answer : (b (a x).after).answer ≡ (b x).answer
  pub same : (b (a x).after).after ≡ (a (b x).after).after

-- the free of an object by allocate's own answer
abbrev pub free_of : Object → State → Outcome
free_of o x = free o.answer x

-- the frees of any two different live objects commute, and so do the releases of any two different cues, 0 and cues without objects among them
pub record OrdersAgree (x : Configuration) : Type 0 where
  pub frees : Pairwise x.heap (λ o o'. Commute (free_of o) (free_of o') x.state)
  pub releases : (c d : ℕ) → c < 2 ^ 32 → d < 2 ^ 32 → (c ≡ d → ⊥) → Commute (release_cue c) (release_cue d) x.state

-- On these histories they do.
unfoldable pub EitherOrder : Type 0
EitherOrder = AfterEveryHistory (λ s x. OrdersAgree x)
