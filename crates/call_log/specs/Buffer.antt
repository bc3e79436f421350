-- Putting text into a buffer. Assumes nothing.
use Rattle.std.specs.Prelude.{ℕ, ◌+◌, ◌≡◌, List, length}
use Rattle.block.specs.Bytes.{put}
use Rattle.call_log.specs.declared.text.Text.{Text}

-- What putting a piece behind the first `at` bytes of a buffer leaves.
pub record Puts (s : Text) (piece : List ℕ) (t : Text) : Type 0 where
  pub text : t.buffer.now ≡ put s.buffer.now s.at piece
  pub position : t.at ≡ s.at + length piece
  pub same_length : length t.buffer.now ≡ length s.buffer.now
  pub same_buffer : t.buffer.ghost_name ≡ s.buffer.ghost_name
