-- The tree: number 1, children and leaves.
use Rattle.std.specs.Prelude.{Bool, not, ◌&&◌, ◌||◌, List, ℕ, get_or, eqb, leb, ltb}
use Rattle.words.specs.Vocab.{all, any}
use Rattle.rules.specs.Codes.{node_least, node_limit}
use Rattle.rules.specs.declared.State.{State}

-- "every other node's parent has a smaller number": nothing is asked of the root or beyond the last node
abbrev pub parent_by : ℕ → ℕ → ℕ → Bool
parent_by n p k = eqb k 0 || leb n k || ltb p k

abbrev pub parent_ok : ℕ → List ℕ → ℕ → Bool
parent_ok n ps k = parent_by n (get_or ps k 0) k

-- number 1: "node count not 2..16, or, from node 1 upward, a parent not smaller than its node"
unfoldable pub tree_ok : ℕ → List ℕ → Bool
tree_ok n ps = leb node_least n && leb n node_limit && all (parent_ok n ps) node_limit

-- k is a node of the tree other than the root, and x is its parent p
unfoldable pub child_by : ℕ → ℕ → ℕ → ℕ → Bool
child_by n p x k = ltb k n && not (eqb k 0) && eqb p x

abbrev pub child_in : ℕ → List ℕ → ℕ → ℕ → Bool
child_in n ps x k = child_by n (get_or ps k 0) x k

-- "A leaf has no child."
unfoldable pub leaf_in : ℕ → List ℕ → ℕ → Bool
leaf_in n ps x = not (any (child_in n ps x) node_limit)

-- the same of a configuration
abbrev pub good_tree : State → Bool
good_tree s = tree_ok s.count s.parents

abbrev pub is_child : State → ℕ → ℕ → Bool
is_child s x k = child_in s.count s.parents x k

abbrev pub is_leaf : State → ℕ → Bool
is_leaf s x = leaf_in s.count s.parents x
