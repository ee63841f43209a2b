-- The first record of document 01's trail, and reset by it.
use Rattle.std.specs.Prelude.{Bool, ◌&&◌, List, ℕ, ◌+◌, ◌-◌, ◌≤◌, replicate, leb}
use Rattle.words.specs.Vocab.{fill, choose}
use Rattle.rules.specs.Codes.{node_limit}
use Rattle.rules.specs.Step.{reset_of}
use Rattle.rules.specs.declared.Answer.{Answer}
use Rattle.octets.specs.BigEndian.{byte, word}
use Rattle.octets.specs.Prefixed.{length_at, reach}
use Rattle.octets.specs.Versions.{longest_first}

-- "First record: first value in 8 bytes, then the parents of nodes 1 upward (length 9 to 23).": it stands after the version,
-- and the version says how long it may be
abbrev pub first_length : List ℕ → ℕ
first_length s = length_at s 1

abbrev pub shortest : ℕ
shortest = 9

unfoldable pub first_ok : ℕ → List ℕ → Bool
first_ok v s = leb shortest (first_length s) && leb (first_length s) (longest_first v) && leb (3 + first_length s) (reach s)

-- the same as three facts
pub record First (v : ℕ) (s : List ℕ) : Type 0 where
  pub low : shortest ≤ first_length s
  pub high : first_length s ≤ longest_first v
  pub whole : 3 + first_length s ≤ reach s

abbrev pub first_value : List ℕ → ℕ
first_value s = word s 3

-- 8 bytes are the value's, and each node but the root has one
abbrev pub count_of : List ℕ → ℕ
count_of s = first_length s - 7

unfoldable pub parents_of : List ℕ → ℕ → List ℕ
parents_of s n = fill (λ k. byte s (11 + k)) 1 (n - 1) (replicate node_limit 0)

-- reset, as the first record asks for it
unfoldable pub reset_asked : List ℕ → Answer
reset_asked s = reset_of (count_of s) (parents_of s (count_of s)) (first_value s)

-- "A bad record (wrong length, cut short, bad tree, missing first record ..": a first record that is not good asks for no tree,
-- and reset on none is number 1, as on a bad tree
unfoldable pub reset_by : ℕ → List ℕ → Answer
reset_by v s = choose (first_ok v s) (reset_asked s) (reset_of 0 (replicate node_limit 0) 0)
