use borrow.Author.Rules.{rules}
use Rattle.names.proofs.Naming.{past_rows}
use Rattle.names.proofs.some_entry.Goals as goal

pub returns : goal.returns
returns c = search (past_rows, rules)
