use mathlib.Core.List.{flat_map}
use lib.ListN.{take}
use Rattle.octets.specs.Written.{Adds}
use Rattle.records.proofs.rows.put_row.Given as goal

abbrev pub invariant-loop-x : goal.invariant-loop-x
invariant-loop-x g l = Adds l.initial.page (flat_map g.T.Put.bytes (take l.x-index l.row)) l.page
