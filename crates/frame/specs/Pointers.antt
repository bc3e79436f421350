-- Tagged pointers: document 01, "Frame arithmetic" and the move of "Calls", after document 003, section 3.2. Assumes nothing.
use Rattle.std.specs.Prelude.{ℕ, ◌+◌, ◌*◌, ◌/◌, ◌%◌, ◌^◌, ◌<◌, Bool, true, false, cond, ◌&&◌, leb, ltb, eqb, ℤ, pos, negsuc, ◌+ℤ◌, None, Option, Some}
use Rattle.frame.specs.Frame.{same_frame}
use Rattle.frame.specs.declared.parts.Pointer.{Pointer}

-- the flag as a bit: 1 for a small-framed object, 0 for a large-framed one
abbrev pub bit : Bool → ℕ
bit true = 1
bit false = 0

-- a pointer of 64 bits taken apart: the top bit, the 15 bits below it, the low 48 bits
unfoldable pub unpack : ℕ → Pointer
unpack word = record { flag = eqb (word / 2 ^ 63) 1; tag = word / 2 ^ 48 % 2 ^ 15; address = word % 2 ^ 48 }

-- and put together again
unfoldable pub pack : Pointer → ℕ
pack p = bit p.flag * 2 ^ 63 + p.tag * 2 ^ 48 + p.address

-- parts that fit their bits
pub record InRange (p : Pointer) : Type 0 where
  pub tag : p.tag < 2 ^ 15
  pub address : p.address < 2 ^ 48

-- the tag number is one that the slot exponent s has: a place in the slot, or the exponent of a frame above the slot's
unfoldable pub good_tag : ℕ → Pointer → Bool
good_tag s p = cond p.flag (ltb p.tag (2 ^ s)) (ltb s p.tag && leb p.tag 31)

-- the exponent of the slot or frame that the address may move in
unfoldable pub reach : ℕ → Pointer → ℕ
reach s p = cond p.flag s p.tag

-- the pointer at another address, its tag unchanged
abbrev pub at : Pointer → ℕ → Pointer
at p a = record { flag = p.flag; tag = p.tag; address = a }

-- the pointer at the address that a move comes to: one of 48 bits, in the same frame of 2^n bytes
unfoldable pub landed : Pointer → ℕ → ℤ → Option Pointer
landed p n (pos a) = cond (ltb a (2 ^ 48) && same_frame n a p.address) (Some (at p a)) None
landed p n (negsuc a) = None

-- the pointer moved by the distance d
unfoldable pub moved : Pointer → ℕ → ℤ → Option Pointer
moved p n d = landed p n (pos p.address +ℤ d)
