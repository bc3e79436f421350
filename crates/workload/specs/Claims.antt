-- What holds of every workload: document 02, W10. Assumes nothing.
use Rattle.std.specs.Prelude.{◌≡◌, ℕ, zero, suc, ◌*◌, ◌<◌, ◌≤◌, true, ◌⊎◌, List, [], ◌∷◌, length, take, drop, None}
use Rattle.store.specs.State.{State, IsAccepted, returned}
use Rattle.store.specs.Calls.{set_up}
use Rattle.store.specs.Claims.{KeepsShape}
use Rattle.store.specs.Step as store
use Rattle.history.specs.History.{begun, after, all_admitted}
use Rattle.history.specs.Release as history
use Rattle.call_log.specs.Records.{records}
use Rattle.call_log.specs.Written.{log_of}
use Rattle.call_log.specs.Run.{asked, Answered, answers, run_over}
use Rattle.call_log.specs.declared.record.Call.{Call}
use Rattle.call_log.specs.declared.record.Call.TheVariants.{Allocate, Free, Move, Load, Store, Fill, Copy}
use Rattle.workload.specs.Generator.{advanced}
use Rattle.workload.specs.Traffic.{traffic_number, state_after, bytes_written, draws_from, started, LoggedOutcome, traffic, calls_from}

-- the calls that a workload makes after an accepted set-up
abbrev pub calls_made : ℕ → ℕ → ℕ → State → List ℕ → List Call
calls_made s g draws x log = calls_from draws (started g (set_up s x).after log)

-- the pointers that it holds at its end
abbrev pub pointers_held : ℕ → ℕ → ℕ → State → List ℕ → List ℕ
pointers_held s g draws x log = (draws_from draws (started g (set_up s x).after log)).at.pointers

-- the bytes of log that it writes
abbrev pub log_written : LoggedOutcome → List ℕ
log_written t = take (bytes_written t.answer) t.log

-- the store's calls that a log's calls ask for
unfoldable pub all_asked : List Call → List store.Call
all_asked [] = []
all_asked (c ∷ cs) = asked c ∷ all_asked cs

-- the generator's state after n steps
unfoldable pub stepped : ℕ → ℕ → ℕ
stepped zero g = g
stepped (suc n) g = stepped n (advanced g)

-- The log: the bytes written are the records of the calls, in order, and the reader gives these calls back; later bytes stay.
pub record Recorded (calls : List Call) (log : List ℕ) (t : LoggedOutcome) : Type 0 where
  pub written : log_written t ≡ log_of calls
  pub later : drop (bytes_written t.answer) t.log ≡ drop (bytes_written t.answer) log
  pub read_back : records (log_written t) ≡ record { calls = calls; fault = None }

-- The answer: 0 with a call for each draw, or 23 with fewer; 0 where the log has 22 bytes for each; the state is as many steps on as there are calls.
pub record Counted (g draws : ℕ) (log : List ℕ) (calls : List Call) (t : LoggedOutcome) : Type 0 where
  pub number : (traffic_number t.answer ≡ 0) ⊎ (traffic_number t.answer ≡ 23)
  pub done : traffic_number t.answer ≡ 0 → length calls ≡ draws
  pub full : traffic_number t.answer ≡ 23 → length calls < draws
  pub roomy : 22 * draws ≤ length log → traffic_number t.answer ≡ 0
  pub state : state_after t.answer ≡ stepped (length calls) g

-- an equal fresh image and table, entries beyond the used ones included: set-up leaves y as it leaves x
abbrev pub EqualFresh : ℕ → State → State → Type 0
EqualFresh s x y = (set_up s y).after ≡ (set_up s x).after

-- The log run on it: demand 3's premise is met, the same calls have the same answers, and image and table are left the same.
pub record RunsAgain (s : ℕ) (x y : State) (calls : List Call) (t : LoggedOutcome) : Type 0 where
  pub sets_up : IsAccepted (set_up s y)
  pub admitted : all_admitted (all_asked (records (log_written t)).calls) (begun s y) ≡ true
  pub same : run_over (log_written t) (set_up s y).after ≡ record { answered = answers calls (set_up s x).after; fault = None; after = t.after }

-- what a call of a workload may answer: allocate 0 or 8, free and store 0; there is no other
abbrev pub AnswersWell : Call → ℕ → Type 0
AnswersWell (Allocate size type) r = (r ≡ 0) ⊎ (r ≡ 8)
AnswersWell (Free p) r = r ≡ 0
AnswersWell (Move p d) r = ⊥
AnswersWell (Load p width) r = ⊥
AnswersWell (Store p width v) r = r ≡ 0
AnswersWell (Fill p n byte) r = ⊥
AnswersWell (Copy t p n) r = ⊥

-- and so for each
unfoldable pub AllWell : List Answered → Type 0
AllWell [] = Unit
AllWell (a ∷ rest) = AnswersWell a.call (returned a.answer) × AllWell rest

-- The pointers held are those of the live objects, in the order of their allocation, and at most 64; at every draw, since a workload of fewer draws ends there.
pub record HeldLive (s : ℕ) (x : State) (calls : List Call) (pointers : List ℕ) : Type 0 where
  pub live : history.answers (after (all_asked calls) (begun s x)).heap ≡ pointers
  pub few : length pointers ≤ 64

-- What holds of a workload whose set-up is accepted.
pub record Repeatable (s g draws : ℕ) (x : State) (log : List ℕ) : Type 0 where
  pub recorded : Recorded (calls_made s g draws x log) log (traffic s g draws x log)
  pub counted : Counted g draws log (calls_made s g draws x log) (traffic s g draws x log)
  pub again : (y : State) → EqualFresh s x y → RunsAgain s x y (calls_made s g draws x log) (traffic s g draws x log)
  pub well : AllWell (answers (calls_made s g draws x log) (set_up s x).after)
  pub held : HeldLive s x (calls_made s g draws x log) (pointers_held s g draws x log)

-- Every such workload is repeatable.
unfoldable pub AllRepeatable : Type 0
AllRepeatable = (s g draws : ℕ) (x : State) (log : List ℕ) → IsAccepted (set_up s x) → Repeatable s g draws x log

-- A workload leaves image, table and log as they were, and both values are 0.
pub record Untouched (x : State) (log : List ℕ) (t : LoggedOutcome) : Type 0 where
  pub store_kept : t.after ≡ x
  pub log_kept : t.log ≡ log
  pub no_state : state_after t.answer ≡ 0
  pub none_written : bytes_written t.answer ≡ 0

-- Where set-up is refused, so is the workload, with the same number.
unfoldable pub RefusedSetUp : Type 0
RefusedSetUp =
    (s g draws : ℕ) (x : State) (log : List ℕ) → (IsAccepted (set_up s x) → ⊥)
    → (traffic_number (traffic s g draws x log).answer ≡ returned (set_up s x).answer) × Untouched x log (traffic s g draws x log)

-- No length is changed, no table entry beyond the used ones is written, and the bytes written lie in the log.
pub record Shaped (s : ℕ) (x : State) (log : List ℕ) (t : LoggedOutcome) : Type 0 where
  pub store : KeepsShape s x t.after
  pub log_length : length t.log ≡ length log
  pub inside : bytes_written t.answer ≤ length log

-- So for every workload, refused or not.
unfoldable pub StayShaped : Type 0
StayShaped = (s g draws : ℕ) (x : State) (log : List ℕ) → Shaped s x log (traffic s g draws x log)
