use Rattle.octets.specs.Written.{Adds}
use Rattle.lines.specs.Lines.{name_line, names_by}
use Rattle.lines.proofs.put_names.Given as goal

abbrev pub invariant-loop-x : goal.invariant-loop-x
invariant-loop-x l = Adds l.initial.page (name_line (names_by l.s.rights l.s.entries l.x)) l.page
