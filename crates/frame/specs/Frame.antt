-- Frames and frame numbers: document 01, "Frame arithmetic", after document 003, section 3.1. Assumes nothing.
use Rattle.std.specs.Prelude.{ℕ, zero, suc, ◌+◌, ◌*◌, ◌/◌, ◌^◌, Bool, true, false, eqb}

-- A frame is 2^n bytes, starting at a multiple of 2^n.

-- the frame number of a and b, found in at most `steps` halvings
unfoldable pub frame_number_in : ℕ → ℕ → ℕ → ℕ
frame_number_in zero a b = zero
frame_number_in (suc steps) a b = elim (eqb a b) [ true ↦ zero | false ↦ suc (frame_number_in steps (a / 2) (b / 2)) ]

-- zero where a and b are equal, otherwise one more than that of their halves: a + b halvings are enough
unfoldable pub frame_number : ℕ → ℕ → ℕ
frame_number a b = frame_number_in (a + b) a b

-- the start of the frame of 2^n bytes that holds a
abbrev pub frame_start : ℕ → ℕ → ℕ
frame_start n a = a / 2 ^ n * 2 ^ n

-- a and b stand in one frame of 2^n bytes
abbrev pub same_frame : ℕ → ℕ → ℕ → Bool
same_frame n a b = eqb (a / 2 ^ n) (b / 2 ^ n)
