use Rattle.std.proofs.Common.{◌≡◌, ◌≤◌, Bool, ℕ}
use Rattle.words.specs.Vocab.{all}
use Rattle.rules.specs.Codes.{node_limit}
use Rattle.loops.specs.Tests.{IsNodeTest}
use Rattle.loops.proofs.nodes.all_nodes.Given as goal

abbrev pub invariant-loop-at : goal.invariant-loop-at
invariant-loop-at g l = (l.at ≤ node_limit) × ((p : ℕ → Bool) → IsNodeTest (goal.F-post g l.test) p → l.ok ≡ all p l.at)
