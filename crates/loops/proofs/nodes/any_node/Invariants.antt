use Rattle.std.proofs.Common.{◌≡◌, ◌≤◌, Bool, ℕ}
use Rattle.words.specs.Vocab.{any}
use Rattle.rules.specs.Codes.{node_limit}
use Rattle.loops.specs.Tests.{IsNodeTest}
use Rattle.loops.proofs.nodes.any_node.Given as goal

abbrev pub invariant-loop-at : goal.invariant-loop-at
invariant-loop-at g l = (l.at ≤ node_limit) × ((p : ℕ → Bool) → IsNodeTest (goal.F-post g l.test) p → l.some ≡ any p l.at)
