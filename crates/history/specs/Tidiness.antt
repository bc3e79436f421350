-- Further claims about what every history begun by set-up leaves: no unsound header, a balanced tally, a right free total, and a tidy image. Assumes
-- nothing.
use Rattle.std.specs.Prelude.{ℕ, ◌+◌, ◌^◌, ◌≤◌, ◌<◌, ◌≡◌, true, false, List, length, get_or}
use Rattle.block.specs.Layout.{extent_at, size_at, is_free, is_live}
use Rattle.block.specs.Walk.{OnWalk}
use Rattle.store.specs.State.{State, returned, value, usage_number, free_bytes, Balances}
use Rattle.store.specs.Calls.{free, release_cue, free_total, tally}
use Rattle.history.specs.History.{EachAllocate, AfterEveryHistory}

-- no walk of allocate or tally meets an unsound header
pub record MeetsNoUnsound (x : State) : Type 0 where
  pub allocates : EachAllocate x (λ size r. r ≡ 7 → ⊥)
  pub tallies : usage_number (tally x) ≡ 7 → ⊥

-- On these histories 7 never comes from allocate or tally.
unfoldable pub NeverUnsound : Type 0
NeverUnsound = AfterEveryHistory (λ s x. MeetsNoUnsound x.state)

-- tally is accepted, and its live, free and overhead bytes are all bytes behind the superblock
pub record Balanced (x : State) : Type 0 where
  pub tallies : usage_number (tally x) ≡ 0
  pub sum : Balances (length x.image) (tally x)

-- These histories leave it so.
unfoldable pub StaysBalanced : Type 0
StaysBalanced = AfterEveryHistory (λ s x. Balanced x.state)

-- free total and tally are accepted, and the one gives the other's free bytes, the sum of the free extents; no call would take it below zero or leave it
-- too high
pub record RightTotal (x : State) : Type 0 where
  pub given : returned (free_total x) ≡ 0
  pub tallies : usage_number (tally x) ≡ 0
  pub sum : value (free_total x) ≡ free_bytes (tally x)
  pub allocates : EachAllocate x (λ size r. r ≡ 22 → ⊥)
  pub frees : (p : ℕ) → p < 2 ^ 64 → returned (free p x).answer ≡ 22 → ⊥
  pub releases : (cue : ℕ) → cue < 2 ^ 32 → returned (release_cue cue x).answer ≡ 22 → ⊥

-- These histories leave it so.
unfoldable pub StaysTotalled : Type 0
StaysTotalled = AfterEveryHistory (λ s x. RightTotal x.state)

-- no two free blocks are neighbours; the body of a free block, and what lies behind the body of a live one, is zero
pub record Tidy (image : List ℕ) : Type 0 where
  pub apart :
      (h : ℕ) → OnWalk image h → h < length image → is_free image h ≡ true → h + extent_at image h < length image
      → is_free image (h + extent_at image h) ≡ false
  pub free_zero :
      (h : ℕ) → OnWalk image h → h < length image → is_free image h ≡ true → (i : ℕ) → 16 ≤ i → i < extent_at image h
      → get_or image (h + i) 0 ≡ 0
  pub tail_zero :
      (h : ℕ) → OnWalk image h → h < length image → is_live image h ≡ true → (i : ℕ) → 16 + size_at image h ≤ i → i < extent_at image h
      → get_or image (h + i) 0 ≡ 0

-- These histories leave the image so.
unfoldable pub StaysTidy : Type 0
StaysTidy = AfterEveryHistory (λ s x. Tidy x.state.image)
