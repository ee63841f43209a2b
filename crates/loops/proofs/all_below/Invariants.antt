use Rattle.std.proofs.Common.{◌≡◌, ◌≤◌, Bool, ℕ}
use Rattle.words.specs.Vocab.{all}
use Rattle.loops.specs.Tests.{IsTest}
use Rattle.loops.proofs.all_below.Given as goal

abbrev pub invariant-loop-k : goal.invariant-loop-k
invariant-loop-k g l = (l.k ≤ l.n) × ((p : ℕ → Bool) → IsTest (goal.F-post g l.test) p l.n → l.ok ≡ all p l.k)
