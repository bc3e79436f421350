-- What holds of logs: what is written is read back, and what is printed are the answers of the calls made in the log's order. Assumes nothing.
use Rattle.std.specs.Prelude.{ℕ, ◌+◌, ◌≡◌, true, List, [], ◌++◌, length, drop, Some, None, Ok, Err}
use Rattle.block.specs.Bytes.{Bytes}
use Rattle.store.specs.State.{State}
use Rattle.call_log.specs.Records.{next_at, records_from, records}
use Rattle.call_log.specs.Run.{answers, run_over}
use Rattle.call_log.specs.Text.{answer_lines, fault_line, end_text, printed}
use Rattle.call_log.specs.Written.{record_of, log_of, recordable, all_recordable}
use Rattle.call_log.specs.declared.record.Call.{Call}
use Rattle.call_log.specs.declared.record.Fault.{Fault}

-- A record that is written is read back, wherever it stands.
unfoldable pub RecordsReadBack : Type 0
RecordsReadBack =
    (log : List ℕ) (at : ℕ) (c : Call) (behind : List ℕ) → recordable c ≡ true
    → drop at log ≡ record_of c ++ behind → next_at log at ≡ Some (Ok (c, at + length (record_of c)))

-- A log is the log of its calls, with nothing behind it, or with a malformed record.
pub record Exact (log : List ℕ) : Type 0 where
  pub behind : List ℕ
  pub is : log ≡ log_of (records log).calls ++ behind
  pub whole : (records log).fault ≡ None → behind ≡ []
  pub malformed : (f : Fault) → (records log).fault ≡ Some f → next_at log (length (log_of (records log).calls)) ≡ Some (Err f)

-- The log of calls holds exactly these, in order; what follows it is read as it stands. And every log of bytes is such a log.
pub record LogsReadBack : Type 0 where
  pub whole : (cs : List Call) → all_recordable cs ≡ true → records (log_of cs) ≡ record { calls = cs; fault = None }
  pub followed :
      (cs : List Call) (behind : List ℕ) → all_recordable cs ≡ true
      → let rest = records_from (log_of cs ++ behind) (length (log_of cs)) in
      records (log_of cs ++ behind) ≡ record { calls = cs ++ rest.calls; fault = rest.fault }
  pub exact : (log : List ℕ) → Bytes log → Exact log

-- The printed answers are those of the calls made in the log's order; a malformed record behind them adds its line, and nothing more.
pub record PrintsAnswers : Type 0 where
  pub every : (log : List ℕ) (x : State) → printed (run_over log x) ≡ answer_lines (answers (records log).calls x) ++ end_text (records log).fault
  pub whole : (cs : List Call) (x : State) → all_recordable cs ≡ true → printed (run_over (log_of cs) x) ≡ answer_lines (answers cs x)
  pub malformed :
      (cs : List Call) (behind : List ℕ) (f : Fault) (x : State) → all_recordable cs ≡ true
      → next_at (log_of cs ++ behind) (length (log_of cs)) ≡ Some (Err f)
      → printed (run_over (log_of cs ++ behind) x) ≡ answer_lines (answers cs x) ++ fault_line f
