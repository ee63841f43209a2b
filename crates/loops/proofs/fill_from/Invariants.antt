use Rattle.std.proofs.Common.{◌≡◌, ◌≤◌, ℕ}
use Rattle.words.specs.Vocab.{fill}
use Rattle.loops.specs.Tests.{IsRule}
use Rattle.loops.proofs.fill_from.Given as goal

abbrev pub invariant-loop-k : goal.invariant-loop-k
invariant-loop-k g l = (l.k ≤ l.n) × ((p : ℕ → _) → IsRule (goal.F-post g l.rule) p l.n → l.row ≡ fill p l.base l.k l.initial.row)
