-- "All numbers are big-endian.": numbers as bytes, over the width.
use Rattle.std.specs.Prelude.{List, [], ◌∷◌, ◌++◌, ℕ, zero, suc, ◌+◌, ◌*◌, ◌/◌, ◌%◌, get_or}

-- past the end of the bytes stands 0
abbrev pub byte : List ℕ → ℕ → ℕ
byte s at = get_or s at 0

-- the number in the n bytes from `at` on
unfoldable pub number : List ℕ → ℕ → ℕ → ℕ
number s at zero = 0
number s at (suc n) = number s at n * 256 + byte s (at + n)

-- the n bytes of a number, its lowest
unfoldable pub bytes_of : ℕ → ℕ → List ℕ
bytes_of zero v = []
bytes_of (suc n) v = bytes_of n (v / 256) ++ (v % 256 ∷ [])

-- the width of a value
abbrev pub word_size : ℕ
word_size = 8

abbrev pub word : List ℕ → ℕ → ℕ
word s at = number s at word_size

abbrev pub word_bytes : ℕ → List ℕ
word_bytes v = bytes_of word_size v
