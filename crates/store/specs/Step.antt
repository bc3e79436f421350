-- A call as data, and what it answers and leaves. Assumes nothing.
use Rattle.std.specs.Prelude.{ℕ, ℤ}
use Rattle.store.specs.State.{State, Outcome}
use Rattle.store.specs.Calls.{allocate, allocate_for, move, load, store, free, fill, copy, copy_text, release_cue}

-- a call with its arguments
pub data Call : Type 0 where
  allocates : (size type : ℕ) → Call
  frees : (pointer : ℕ) → Call
  moves : (pointer : ℕ) (distance : ℤ) → Call
  loads : (pointer width : ℕ) → Call
  stores : (pointer width value : ℕ) → Call
  fills : (pointer n byte : ℕ) → Call
  copies : (target source n : ℕ) → Call
  copies_text : (target source : ℕ) → Call
  allocates_for : (size type cue : ℕ) → Call
  releases : (cue : ℕ) → Call

-- what it answers and leaves
abbrev pub step : Call → State → Outcome
step (allocates size type) x = allocate size type x
step (frees p) x = free p x
step (moves p d) x = move p d x
step (loads p width) x = load p width x
step (stores p width v) x = store p width v x
step (fills p n byte) x = fill p n byte x
step (copies t p n) x = copy t p n x
step (copies_text t p) x = copy_text t p x
step (allocates_for size type cue) x = allocate_for size type cue x
step (releases cue) x = release_cue cue x
