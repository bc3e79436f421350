-- What `recorded` uses: a load writes inside its log. Assumes nothing.
use Rattle.std.proofs.Common.{ℕ, ◌≤◌, ◌≡◌, List, Result, length, ap, arith}
use Rattle.store.specs.State.{State}
use Rattle.store.specs.declared.answer.Refusal.{Refusal}
use Rattle.workload.specs.Traffic.{bytes_written, LoggedOutcome, logged}
use Rattle.workload.specs.declared.answer.Traffic.{Traffic}
use Rattle.workload.proofs.Claims.{load_inside}
use Rattle.traffic.specs.Program.{blank, program_run}

-- the bytes that an answer counts are in the log that comes with it
pub inside_log : (g draws : ℕ) (log : List ℕ) {a : Result Traffic Refusal} {x : State} {log' : List ℕ}
    → logged a x log' ≡ program_run g draws log
    → bytes_written a ≤ length log'
inside_log g draws log {a} {log' = log'} o =
    let (fits, long) = load_inside 8 g draws blank log in
    let bytes : bytes_written a ≡ bytes_written (program_run g draws log).answer = ap (λ (t : LoggedOutcome). bytes_written t.answer) o in
    let left : length log' ≡ length (program_run g draws log).log = ap (λ (t : LoggedOutcome). length t.log) o in
    omega (arith, fits, long)
