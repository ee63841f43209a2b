-- Printed by tools/print from crates/rules/src/lib.rt. A configuration as bytes, field by field: what bytes say,
-- whether their flags are flags, and the bytes of each.
use Rattle.std.specs.Prelude.{Bool, false, ◌&&◌, ℕ, ◌+◌, ◌*◌, replicate}
use mathlib.Core.List.{List, ◌++◌, flat_map}
use Rattle.words.specs.Vocab.{all, fill}
use Rattle.rules.specs.Codes.{node_limit, cells}
use Rattle.rules.specs.Zero.{zero_node, zero_link}
use Rattle.rules.specs.declared.State.{State}
use Rattle.rules.specs.declared.Node.{Node}
use Rattle.rules.specs.declared.Link.{Link}
use Rattle.octets.specs.BigEndian.{byte, word, word_bytes}
use Rattle.octets.specs.Fields.{flag_at, flag_ok, one, flag, flags}
use Rattle.records.specs.Layout.{node_size, link_size, count_place, parents_place, rights_place, entries_place, to_probe_place, pending_place, nodes_place, links_place}

-- the node from i on
unfoldable pub node_at : List ℕ → ℕ → Node
node_at s i =
    record { dirty = flag_at s i; value = word s (i + 1); phase = byte s (i + 9); purpose = byte s (i + 10); requester = byte s (i + 11); probe = flag_at s (i + 12); cap = byte s (i + 13); release = byte s (i + 14) }

-- the link from i on
unfoldable pub link_at : List ℕ → ℕ → Link
link_at s i =
    record { a = byte s i; b = byte s (i + 1); c = byte s (i + 2); kept = byte s (i + 3); up = word s (i + 4); d = byte s (i + 12); down = word s (i + 13); e = byte s (i + 21) }

-- a row from i on: one for each node, or for each cell
unfoldable pub byte_row_at : List ℕ → ℕ → List ℕ
byte_row_at s i = fill (λ k. byte s (i + k)) 0 node_limit (replicate node_limit 0)

unfoldable pub byte_cells_at : List ℕ → ℕ → List ℕ
byte_cells_at s i = fill (λ k. byte s (i + k)) 0 cells (replicate cells 0)

unfoldable pub flag_cells_at : List ℕ → ℕ → List Bool
flag_cells_at s i = fill (λ k. flag_at s (i + k)) 0 cells (replicate cells false)

unfoldable pub node_row_at : List ℕ → ℕ → List Node
node_row_at s i = fill (λ k. node_at s (i + k * node_size)) 0 node_limit (replicate node_limit zero_node)

unfoldable pub link_row_at : List ℕ → ℕ → List Link
link_row_at s i = fill (λ k. link_at s (i + k * link_size)) 0 node_limit (replicate node_limit zero_link)

-- the configuration that the bytes write
unfoldable pub state_of : List ℕ → State
state_of s =
    record { count = byte s count_place; parents = byte_row_at s parents_place; rights = byte_row_at s rights_place; entries = byte_cells_at s entries_place; to_probe = flag_cells_at s to_probe_place; pending = flag_cells_at s pending_place; nodes = node_row_at s nodes_place; links = link_row_at s links_place }

-- "A flag is one byte, 0 or 1."
unfoldable pub node_flags_ok : List ℕ → ℕ → Bool
node_flags_ok s i = flag_ok s i && flag_ok s (i + 12)

unfoldable pub flag_cells_ok : List ℕ → ℕ → Bool
flag_cells_ok s i = all (λ k. flag_ok s (i + k)) cells

unfoldable pub node_row_ok : List ℕ → ℕ → Bool
node_row_ok s i = all (λ k. node_flags_ok s (i + k * node_size)) node_limit

unfoldable pub flags_ok : List ℕ → Bool
flags_ok s = flag_cells_ok s to_probe_place && flag_cells_ok s pending_place && node_row_ok s nodes_place

-- the bytes of a node
unfoldable pub node_bytes : Node → List ℕ
node_bytes m =
    flag m.dirty ++ word_bytes m.value ++ one m.phase ++ one m.purpose
    ++ one m.requester ++ flag m.probe ++ one m.cap ++ one m.release

-- the bytes of a link
unfoldable pub link_bytes : Link → List ℕ
link_bytes m =
    one m.a ++ one m.b ++ one m.c ++ one m.kept
    ++ word_bytes m.up ++ one m.d ++ word_bytes m.down ++ one m.e

-- the bytes of a configuration
unfoldable pub state_bytes : State → List ℕ
state_bytes m =
    one m.count ++ m.parents ++ m.rights ++ m.entries
    ++ flags m.to_probe ++ flags m.pending ++ flat_map node_bytes m.nodes ++ flat_map link_bytes m.links
