-- The generator: document 02, W10. Assumes nothing.
use Rattle.std.specs.Prelude.{ℕ, ◌+◌, ◌*◌, ◌/◌, ◌%◌, ◌^◌, bit_xor}

-- the state after a step: the sum, wrapping round at 64 bits
unfoldable pub advanced : ℕ → ℕ
advanced g = (g + 0x9E3779B97F4A7C15) % 2 ^ 64

-- an exclusive-or of v with itself shifted to the right by k
unfoldable pub xor_right : ℕ → ℕ → ℕ
xor_right k v = bit_xor v (v / 2 ^ k)

-- and to the left, high bits lost
unfoldable pub xor_left : ℕ → ℕ → ℕ
xor_left k v = bit_xor v (v * 2 ^ k % 2 ^ 64)

-- the draw that a state gives, by three such steps
unfoldable pub drawn : ℕ → ℕ
drawn g = xor_right 31 (xor_left 27 (xor_right 30 g))
