-- What the reader gives, call by call. Assumes nothing.
use Rattle.std.specs.Prelude.{ℕ, ◌≡◌, length, Option, Some, None, Result, Ok, Err}
use Rattle.call_log.specs.Records.{Next, next_at}
use Rattle.call_log.specs.declared.reader.Reader.{Reader}
use Rattle.call_log.specs.declared.record.Call.{Call}
use Rattle.call_log.specs.declared.record.Fault.{Fault}

-- the item for what the log has at the position
abbrev pub item : Next → Option (Result Call Fault)
item None = None
item (Some (Err f)) = Some (Err f)
item (Some (Ok (c, next))) = Some (Ok c)

-- the position after it, in a log of n bytes: behind a record; at the end behind a malformed one, which is the last item
abbrev pub position_after : Next → ℕ → ℕ → ℕ
position_after None at n = at
position_after (Some (Err f)) at n = n
position_after (Some (Ok (c, next))) at n = next

-- One step of the reader: from a state, the item, and the state after it.
pub record GivesNext (s : Reader) (r : Option (Result Call Fault)) (t : Reader) : Type 0 where
  pub gives : r ≡ item (next_at s.log.now s.at)
  pub position : t.at ≡ position_after (next_at s.log.now s.at) s.at (length s.log.now)
  pub same_log : t.log ≡ s.log
