-- Printed by tools/print from crates/rules/src/lib.rt. How many bytes a node, a link and a configuration have.
use mathlib.Core.Path.{◌≡◌, refl}
use native.Mathlib.Omega.{arith}
use lib.ListN.{length, length-append}
use Rattle.rules.specs.Codes.{node_limit, cells}
use Rattle.rules.specs.declared.State.{State}
use Rattle.rules.specs.declared.Node.{Node}
use Rattle.rules.specs.declared.Link.{Link}
use Rattle.octets.specs.Fields.{flag}
use Rattle.octets.proofs.BytesRead.{length_bytes}
use Rattle.octets.proofs.BytesWritten.{flat_length}
use Rattle.records.specs.Layout.{node_size, link_size, state_size}
use Rattle.records.specs.StateBytes.{node_bytes, link_bytes, state_bytes}

node_size_lem : (m : Node) → length (node_bytes m) ≡ node_size
unfolding node_bytes
node_size_lem m = simp (length-append, length_bytes)

link_size_lem : (m : Link) → length (link_bytes m) ≡ link_size
unfolding link_bytes
link_size_lem m = simp (length-append, length_bytes)

-- the rows of a configuration in the code are as long as the arrays
pub record Sized (s : State) : Type 0 where
  pub parents_long : length s.parents ≡ node_limit
  pub rights_long : length s.rights ≡ node_limit
  pub entries_long : length s.entries ≡ cells
  pub to_probe_long : length s.to_probe ≡ cells
  pub pending_long : length s.pending ≡ cells
  pub nodes_long : length s.nodes ≡ node_limit
  pub links_long : length s.links ≡ node_limit

pub state_size_lem : (s : State) → Sized s → length (state_bytes s) ≡ state_size
unfolding state_bytes
state_size_lem s z = simp length-append (omega (arith, z.parents_long, z.rights_long, z.entries_long, z.to_probe_long, z.pending_long, z.nodes_long, z.links_long, flat_length flag 1 (λ b. refl) s.to_probe, flat_length flag 1 (λ b. refl) s.pending, flat_length node_bytes node_size node_size_lem s.nodes, flat_length link_bytes link_size link_size_lem s.links))
