-- Little-endian numbers in a list of bytes, and replacing a run of bytes. Assumes nothing.
use Rattle.std.specs.Prelude.{ℕ, zero, suc, ◌+◌, ◌*◌, ◌/◌, ◌%◌, ◌<◌, List, [], ◌∷◌, ◌++◌, length, take, drop, slice_index}

-- the low `width` bytes of v, little-endian
unfoldable pub encode : ℕ → ℕ → List ℕ
encode zero v = []
encode (suc width) v = v % 256 ∷ encode width (v / 256)

-- the number that bytes are, little-endian
unfoldable pub decode : List ℕ → ℕ
decode [] = 0
decode (b ∷ bs) = b + 256 * decode bs

-- the number in `width` bytes at `at`
unfoldable pub field : List ℕ → ℕ → ℕ → ℕ
field image at width = decode (take width (drop at image))

-- the image with its bytes from `at` on replaced
unfoldable pub put : List ℕ → ℕ → List ℕ → List ℕ
put image at bytes = take at image ++ (bytes ++ drop (at + length bytes) image)

-- every element is a byte
abbrev pub Bytes : List ℕ → Type 0
Bytes image = (k : ℕ) → slice_index image k < 256
