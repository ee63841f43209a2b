-- The trail's versions as a table: a new version is a new row.
use Rattle.std.specs.Prelude.{Bool, List, [], ◌∷◌, ℕ, get_or, leb}

-- "(length 9 to 23)": the longest first record of each version from 0 on; 0 where there is no such version
abbrev pub longests : List ℕ
longests = 0 ∷ 23 ∷ []

unfoldable pub longest_first : ℕ → ℕ
longest_first v = get_or longests v 0

-- a version is one that has a first record
abbrev pub known : ℕ → Bool
known v = leb 1 (longest_first v)
