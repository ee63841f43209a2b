-- Flags and events as bytes.
use Rattle.std.specs.Prelude.{Bool, not, ℕ, ◌+◌, eqb, leb}
use mathlib.Core.List.{List, [], ◌∷◌, flat_map}
use Rattle.words.specs.Vocab.{choose}
use Rattle.rules.specs.declared.Event.{Event}
use Rattle.octets.specs.BigEndian.{byte, word}

-- "A flag is one byte, 0 or 1."
abbrev pub flag_at : List ℕ → ℕ → Bool
flag_at s at = not (eqb (byte s at) 0)

abbrev pub flag_ok : List ℕ → ℕ → Bool
flag_ok s at = leb (byte s at) 1

unfoldable pub flag_byte : Bool → ℕ
flag_byte b = choose b 1 0

-- the bytes of a field of one byte, and of a flag
abbrev pub one : ℕ → List ℕ
one b = b ∷ []

abbrev pub flag : Bool → List ℕ
flag b = flag_byte b ∷ []

abbrev pub flags : List Bool → List ℕ
flags = flat_map flag

-- "kind, node, other, value in 8 bytes": the event from `at` on, and its size
unfoldable pub event_at : List ℕ → ℕ → Event
event_at s at = record { kind = byte s at; node = byte s (at + 1); other = byte s (at + 2); value = word s (at + 3) }

abbrev pub event_size : ℕ
event_size = 11
