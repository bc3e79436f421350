-- The tag of an object and its table entry: document 01, "Frame arithmetic", after document 003, section 3.3. Assumes nothing.
use Rattle.std.specs.Prelude.{ℕ, ◌+◌, ◌-◌, ◌*◌, ◌/◌, ◌^◌, Bool, cond, ◌&&◌, not, leb, eqb}
use Rattle.frame.specs.Frame.{frame_number, frame_start}
use Rattle.frame.specs.declared.parts.Pointer.{Pointer}

-- An object is given by its header's place h and its raw size in bytes; its body starts 16 bytes after h.

-- the first byte that its wrapper frame holds: the header's
abbrev pub first_held : ℕ → ℕ
first_held h = h

-- the last one, document 01's e: one imaginary byte past the body
abbrev pub last_held : ℕ → ℕ → ℕ
last_held h size = h + 16 + size

-- the exponent of its wrapper frame, the smallest frame that holds every byte from the first to the last: document 01's N
unfoldable pub wrapper : ℕ → ℕ → ℕ
wrapper h size = frame_number (first_held h) (last_held h size)

-- it is small-framed: its wrapper frame is no larger than a slot, a frame of 2^s bytes
abbrev pub is_small : ℕ → ℕ → ℕ → Bool
is_small s h size = leb (wrapper h size) s

-- its tag number: the header's place in its slot, or the exponent of the wrapper frame
unfoldable pub tag_number : ℕ → ℕ → ℕ → ℕ
tag_number s h size = cond (is_small s h size) (h - frame_start s h) (wrapper h size)

-- its pointer: the tagged start of the body
unfoldable pub pointer_to : ℕ → ℕ → ℕ → Pointer
pointer_to s h size = record { flag = is_small s h size; tag = tag_number s h size; address = h + 16 }

-- the pointer has that very flag and tag number
unfoldable pub tag_matches : ℕ → ℕ → ℕ → Pointer → Bool
tag_matches s h size p = cond p.flag (is_small s h size) (not (is_small s h size)) && eqb (tag_number s h size) p.tag

-- how many table entries an image of L bytes uses: 48 for each division, a frame of 2^(s+1) bytes
unfoldable pub used_entries : ℕ → ℕ → ℕ
used_entries s L = 48 * ((L - 1) / 2 ^ (s + 1) + 1)

-- the table entry of the frame of 2^n bytes that holds a, for n above s
unfoldable pub entry_at : ℕ → ℕ → ℕ → ℕ
entry_at s n a = 48 * (frame_start n a / 2 ^ (s + 1)) + (n - s - 1)

-- the table entry of a large-framed object
abbrev pub entry_of : ℕ → ℕ → ℕ → ℕ
entry_of s h size = entry_at s (wrapper h size) h
