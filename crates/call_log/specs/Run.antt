-- The run over a log: document 02, W2. Its calls are made in the log's order, each on the image and table that the one before it left. A refused call
-- does not end the run, a malformed record does. Assumes nothing.
use Rattle.std.specs.Prelude.{ℕ, List, [], ◌∷◌, Option}
use Rattle.store.specs.State.{State, Outcome}
use Rattle.store.specs.Step as store
use Rattle.store.specs.State.{Answer}
use Rattle.call_log.specs.Records.{Records, records}
use Rattle.call_log.specs.declared.record.Call.{Call}
use Rattle.call_log.specs.declared.record.Call.TheVariants.{Allocate, Free, Move, Load, Store, Fill, Copy}
use Rattle.call_log.specs.declared.record.Fault.{Fault}

-- the store's call that a record asks for
abbrev pub asked : Call → store.Call
asked (Allocate size type) = store.allocates size type
asked (Free p) = store.frees p
asked (Move p d) = store.moves p d
asked (Load p width) = store.loads p width
asked (Store p width v) = store.stores p width v
asked (Fill p n byte) = store.fills p n byte
asked (Copy target source n) = store.copies target source n

-- what it answers and leaves
abbrev pub made : Call → State → Outcome
made c x = store.step (asked c) x

-- A call that was made, with its answer.
pub record Answered : Type 0 where
  pub call : Call
  pub answer : Answer

-- a call made on an image and table
abbrev pub answered_by : Call → State → Answered
answered_by c x = record { call = c; answer = (made c x).answer }

-- calls made in order
unfoldable pub answers : List Call → State → List Answered
answers [] x = []
answers (c ∷ cs) x = answered_by c x ∷ answers cs (made c x).after

-- the image and table that they leave
unfoldable pub left_by : List Call → State → State
left_by [] x = x
left_by (c ∷ cs) x = left_by cs (made c x).after

-- A run: the calls with their answers; how it ends, by a malformed record, or by none where the log is used up; the image and table that it leaves.
pub record Run : Type 0 where
  pub answered : List Answered
  pub fault : Option Fault
  pub after : State

-- the run over what a log holds
abbrev pub run_of : Records → State → Run
run_of r x = record { answered = answers r.calls x; fault = r.fault; after = left_by r.calls x }

-- the run over a log
abbrev pub run_over : List ℕ → State → Run
run_over log x = run_of (records log) x
