-- What a configuration holds, cell by cell.
use Rattle.std.specs.Prelude.{Bool, false, ℕ, ◌+◌, ◌*◌, get_or}
use Rattle.rules.specs.Codes.{node_limit}
use Rattle.rules.specs.Zero.{zero_node, zero_link}
use Rattle.rules.specs.declared.State.{State}
use Rattle.rules.specs.declared.Node.{Node}
use Rattle.rules.specs.declared.Link.{Link}

-- "everything idle and empty"
abbrev pub blank_node : Node
blank_node = zero_node

abbrev pub blank_link : Link
blank_link = zero_link

-- "entries: one row for each node, one entry for each child"
abbrev pub cell : ℕ → ℕ → ℕ
cell x k = x * node_limit + k

abbrev pub parent : State → ℕ → ℕ
parent s k = get_or s.parents k 0

abbrev pub rights : State → ℕ → ℕ
rights s x = get_or s.rights x 0

abbrev pub entry : State → ℕ → ℕ → ℕ
entry s x k = get_or s.entries (cell x k) 0

abbrev pub to_probe : State → ℕ → ℕ → Bool
to_probe s x k = get_or s.to_probe (cell x k) false

abbrev pub pending : State → ℕ → ℕ → Bool
pending s x k = get_or s.pending (cell x k) false

abbrev pub node : State → ℕ → Node
node s x = get_or s.nodes x blank_node

abbrev pub link : State → ℕ → Link
link s k = get_or s.links k blank_link

-- the value of a node's copy
abbrev pub value : State → ℕ → ℕ
value s x = (node s x).value
