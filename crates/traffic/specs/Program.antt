-- What the program records: document 02, W10, on the store of W2's program. Assumes nothing.
use Rattle.std.specs.Prelude.{ℕ, Bool, false, Result, Ok, Err, List, replicate}
use Rattle.store.specs.State.{State, state}
use Rattle.workload.specs.Traffic.{LoggedOutcome, traffic}
use Rattle.workload.specs.declared.answer.Traffic.{Traffic}
use Rattle.store.specs.declared.answer.Refusal.{Refusal}

-- an image of 8,192 bytes and its table
abbrev pub blank : State
blank = state (replicate 8192 0) (replicate 768 0)

-- a workload on it at the slot exponent 8
abbrev pub program_run : ℕ → ℕ → List ℕ → LoggedOutcome
program_run g draws log = traffic 8 g draws blank log

-- whether its log has no space for the next record
abbrev pub is_full : Result Traffic Refusal → Bool
is_full (Ok t) = t.full
is_full (Err r) = false
