-- Printed by tools/print from crates/rules/src/lib.rt. The places of the fields in bytes (docs/FORMAT.md).
use Rattle.std.specs.Prelude.{ℕ, ◌+◌, ◌*◌}
use Rattle.rules.specs.Codes.{node_limit, cells}

-- bytes of a node and of a link
abbrev pub node_size : ℕ
node_size = 15

abbrev pub link_size : ℕ
link_size = 22

-- where the fields of a configuration start, and its size
abbrev pub count_place : ℕ
count_place = 0

abbrev pub parents_place : ℕ
parents_place = count_place + 1

abbrev pub rights_place : ℕ
rights_place = parents_place + node_limit

abbrev pub entries_place : ℕ
entries_place = rights_place + node_limit

abbrev pub to_probe_place : ℕ
to_probe_place = entries_place + cells

abbrev pub pending_place : ℕ
pending_place = to_probe_place + cells

abbrev pub nodes_place : ℕ
nodes_place = pending_place + cells

abbrev pub links_place : ℕ
links_place = nodes_place + node_limit * node_size

abbrev pub state_size : ℕ
state_size = links_place + node_limit * link_size
