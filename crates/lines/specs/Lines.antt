-- The lines that document 01 prints: numbers in decimal, the line of an event, `end` and `bad P`. A text is the list of its bytes.
use mathlib.Core.List.{List, [] as none, ◌∷◌ as ◌then◌, ◌++◌, flat_map}
use Prim.Native.Char.{code}
use Rattle.std.specs.Prelude.{ℕ, zero, suc, ◌+◌, ◌/◌, ◌%◌, get_or, ltb}
use Prim.Native.String.{String, [], ◌∷◌}
use Rattle.words.specs.Vocab.{choose}
use Rattle.rules.specs.Names.{name_by}

-- the bytes of a text in ASCII
abbrev pub ascii : String → List ℕ
ascii [] = none
ascii (c ∷ s) = code c then ascii s

-- the digits of n with no zero in front, where k of them are enough
unfoldable pub spelled : ℕ → ℕ → List ℕ
spelled zero n = none
spelled (suc k) n = choose (ltb n 10) ((code "0" + n) then none) (spelled k (n / 10) ++ ((code "0" + n % 10) then none))

-- "in decimal": a 64-bit number has at most 20 digits
abbrev pub decimal : ℕ → List ℕ
decimal n = spelled 20 n

-- a number and the byte after it
unfoldable pub field : ℕ → ℕ → List ℕ
field n after = decimal n ++ (after then none)

abbrev pub space : ℕ
space = code " "

abbrev pub newline : ℕ
newline = code "\n"

-- "index from 1, kind, node, number, answer value, in decimal with single spaces"
unfoldable pub asked : ℕ → ℕ → ℕ → List ℕ
asked index kind node = field index space ++ field kind space ++ field node space

unfoldable pub line : ℕ → ℕ → ℕ → ℕ → ℕ → List ℕ
line index kind node number value = asked index kind node ++ field number space ++ field value newline

-- the names in the order of their codes, each after a space
abbrev pub name_texts : List (List ℕ)
name_texts = ascii " N" then ascii " B" then ascii " T" then ascii " TB" then ascii " TT" then none

unfoldable pub name_text : ℕ → List ℕ
name_text n = get_or name_texts n none

abbrev pub name_line : List ℕ → List ℕ
name_line = flat_map name_text

-- the names of the first n nodes, in order, by the rights and the entries of all nodes
unfoldable pub names_by : List ℕ → List ℕ → ℕ → List ℕ
names_by rs es zero = none
names_by rs es (suc n) = names_by rs es n ++ (name_by rs es n then none)

-- "`end` and the node names in order"
unfoldable pub end_line : List ℕ → List ℕ
end_line names = ascii "end" ++ name_line names ++ ascii "\n"

-- "`bad P`"
unfoldable pub bad_line : ℕ → List ℕ
bad_line p = ascii "bad " ++ field p newline
