-- The files that words name for a dump. Assumes nothing.
use Rattle.std.specs.Prelude.{ℕ, Bool, cond, ◌||◌, nat_eq, List, drop, codes}
use Rattle.std.specs.List.{starts_with}

-- whether a word names the image's file
unfoldable pub names_image : List ℕ → Bool
names_image word = starts_with nat_eq word (codes "IMAGE=")

unfoldable pub names_file : List ℕ → Bool
names_file word = names_image word || starts_with nat_eq word (codes "TABLE=")

-- the name stands behind the six bytes that say which
unfoldable pub file_name : List ℕ → List ℕ
file_name word = drop 6 word

-- what the file is to hold
unfoldable pub file_bytes : List ℕ → List ℕ → List ℕ → List ℕ
file_bytes image entries word = cond (names_image word) image entries
