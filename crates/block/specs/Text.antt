-- Texts, zero-terminated strings: document 02, W5. Assumes nothing.
use Rattle.std.specs.Prelude.{ℕ, ◌+◌, true, false, List, [], ◌∷◌, ◌==◌, None, Option, Some}

-- a text of which n bytes stand before the list: its length, the bytes before the first zero byte
unfoldable pub text_from : ℕ → List ℕ → Option ℕ
text_from n [] = None
text_from n (b ∷ bs) = elim (b == 0) [ true ↦ Some n | false ↦ text_from (n + 1) bs ]

-- the text at the start of a list
unfoldable pub text_of : List ℕ → Option ℕ
text_of bytes = text_from 0 bytes
