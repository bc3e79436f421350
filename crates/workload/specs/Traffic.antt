-- The repeatable workload: document 02, W10. Assumes nothing.
use Rattle.std.specs.Prelude.{ℕ, zero, suc, ◌+◌, Bool, true, false, cond, Result, Ok, Err, List, [], ◌∷◌, length, nat_le}
use Rattle.block.specs.Bytes.{put}
use Rattle.store.specs.State.{State, Outcome, refusal_number}
use Rattle.store.specs.Calls.{set_up}
use Rattle.store.specs.State.{Answer}
use Rattle.store.specs.declared.answer.Refusal.{Refusal}
use Rattle.call_log.specs.Run.{made}
use Rattle.call_log.specs.Written.{record_of}
use Rattle.call_log.specs.declared.record.Call.{Call}
use Rattle.workload.specs.Generator.{advanced, drawn}
use Rattle.workload.specs.Choice.{choice_of, call_of, pointers_after}
use Rattle.workload.specs.declared.answer.Traffic.{Traffic}
use Rattle.workload.specs.declared.choosing.Choice.{Choice}

-- The answer.

-- the number that the call returns: 23 for a full log
abbrev pub traffic_number : Result Traffic Refusal → ℕ
traffic_number (Ok t) = cond t.full 23 0
traffic_number (Err r) = refusal_number r

-- the generator's state that it gives: 0 where set-up is refused
abbrev pub state_after : Result Traffic Refusal → ℕ
state_after (Ok t) = t.generator
state_after (Err r) = 0

-- the bytes of log written that it gives: 0 where set-up is refused
abbrev pub bytes_written : Result Traffic Refusal → ℕ
bytes_written (Ok t) = t.written
bytes_written (Err r) = 0

-- The draws.

-- How far a workload is: the generator's state, the live pointers in the order of their allocation, image and table, the log and how much of it is written.
pub record Progress : Type 0 where
  pub generator : ℕ
  pub pointers : List ℕ
  pub store : State
  pub log : List ℕ
  pub written : ℕ

-- what the next draw asks for
abbrev pub next_choice : Progress → Choice
next_choice r = choice_of (drawn (advanced r.generator)) r.pointers

-- its call
abbrev pub next_call : Progress → Call
next_call r = call_of (next_choice r)

-- the log has space for its record
abbrev pub has_space : Progress → Bool
has_space r = nat_le (r.written + length (record_of (next_call r))) (length r.log)

-- the next draw's call made and recorded
unfoldable pub recorded : Progress → Progress
recorded r =
    let o : Outcome = made (next_call r) r.store in
    record {
      generator = advanced r.generator;
      pointers = pointers_after (next_choice r) o.answer r.pointers;
      store = o.after;
      log = put r.log r.written (record_of (next_call r));
      written = r.written + length (record_of (next_call r));
    }

-- How a workload ends: with a full log, or with all draws recorded.
pub record Ended : Type 0 where
  pub full : Bool
  pub at : Progress

-- n draws from there on; where the log has no space for the next record, it ends before that record's call
unfoldable pub draws_from : ℕ → Progress → Ended
draws_from zero r = record { full = false; at = r }
draws_from (suc n) r =
    elim (has_space r) [
      | true ↦ draws_from n (recorded r)
      | false ↦ record { full = true; at = r }
    ]

-- it begins with no pointers and nothing written
abbrev pub started : ℕ → State → List ℕ → Progress
started g x log = record { generator = g; pointers = []; store = x; log = log; written = 0 }

-- The call.

-- What it answers, and the image, table and log that it leaves.
pub record LoggedOutcome : Type 0 where
  pub answer : Result Traffic Refusal
  pub after : State
  pub log : List ℕ

-- made of an answer and what is left
abbrev pub logged : Result Traffic Refusal → State → List ℕ → LoggedOutcome
logged a x log = record { answer = a; after = x; log = log }

-- the answer, by how it ends
abbrev pub answer_of : Ended → Result Traffic Refusal
answer_of e = Ok (record { generator = e.at.generator; written = e.at.written; full = e.full })

-- what is left where it ends so
abbrev pub logged_by : Ended → LoggedOutcome
logged_by e = logged (answer_of e) e.at.store e.at.log

-- what follows set-up
abbrev pub after_set_up : Outcome → ℕ → ℕ → List ℕ → Answer → LoggedOutcome
after_set_up o g draws log (Err r) = logged (Err r) o.after log
after_set_up o g draws log (Ok v) = logged_by (draws_from draws (started g o.after log))

-- A workload of so many draws from the state g: 1, 2, 3, then 23 before each record.
unfoldable pub traffic : ℕ → ℕ → ℕ → State → List ℕ → LoggedOutcome
traffic s g draws x log = let o : Outcome = set_up s x in after_set_up o g draws log o.answer

-- The calls that draws make.
unfoldable pub calls_from : ℕ → Progress → List Call
calls_from zero r = []
calls_from (suc n) r =
    elim (has_space r) [
      | true ↦ next_call r ∷ calls_from n (recorded r)
      | false ↦ []
    ]
