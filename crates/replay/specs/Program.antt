-- What the program prints: document 02, W2; and what it leaves. Assumes nothing.
use Rattle.std.specs.Prelude.{ℕ, ◌≡◌, List, replicate}
use Rattle.store.specs.State.{State, state}
use Rattle.store.specs.Calls.{set_up}
use Rattle.call_log.specs.Run.{run_over}
use Rattle.call_log.specs.Text.{ascii, printed}
use Rattle.call_log.specs.Examples.{sample, sample_lines}

-- an image of 8,192 bytes and its table, set up at the slot exponent 8
abbrev pub fresh_store : State
fresh_store = (set_up 8 (state (replicate 8192 0) (replicate 768 0))).after

-- what is printed of a log: the text of the run over it
abbrev pub program_text : List ℕ → List ℕ
program_text log = printed (run_over log fresh_store)

-- the image and table that a log leaves: those of the run over it
abbrev pub program_state : List ℕ → State
program_state log = (run_over log fresh_store).after

-- document 02's sample gives exactly its two lines
pub sample_text : program_text sample ≡ ascii "16 0 8010000000000020\n19 0 0000000000000000\n"
sample_text = sample_lines
