-- Printed by tools/print from crates/rules/src/lib.rt. The records of which every field is zero.
use Rattle.std.specs.Prelude.{false}
use Rattle.rules.specs.declared.Node.{Node}
use Rattle.rules.specs.declared.Link.{Link}

abbrev pub zero_node : Node
zero_node = record { dirty = false; value = 0; phase = 0; purpose = 0; requester = 0; probe = false; cap = 0; release = 0 }

abbrev pub zero_link : Link
zero_link = record { a = 0; b = 0; c = 0; kept = 0; up = 0; d = 0; down = 0; e = 0 }
