-- Records, "each led by a two-byte big-endian length".
use Rattle.std.specs.Prelude.{List, ℕ, min, length}
use Rattle.octets.specs.BigEndian.{number}

-- the bytes of the length itself
abbrev pub prefix_size : ℕ
prefix_size = 2

-- the length that stands at `at`
abbrev pub length_at : List ℕ → ℕ → ℕ
length_at s at = number s at prefix_size

-- "the first 65,536 bytes"
abbrev pub window : ℕ
window = 65536

-- how far a record may reach: no further than the input and the window
abbrev pub reach : List ℕ → ℕ
reach s = min (length s) window
