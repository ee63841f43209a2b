use Rattle.std.proofs.Common.{◌≡◌, ◌<◌, ◌≤◌, ℕ, false, get_or, not}
use Rattle.words.specs.Vocab.{any}
use Rattle.rules.specs.Codes.{node_limit}
use Rattle.rules.specs.Tree.{is_child}
use Rattle.scan.proofs.leaves.leaf_flags.Given as goal

-- the nodes below `at` have been looked at
abbrev pub invariant-loop-at : goal.invariant-loop-at
invariant-loop-at l = (l.at ≤ node_limit) × ((x : ℕ) → x < node_limit → get_or l.flags x false ≡ not (any (is_child l.s x) l.at))
