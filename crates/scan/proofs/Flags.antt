-- A node that no node names as its parent is a leaf.
use Rattle.std.proofs.Common.{arith, ◌≡◌, ◌&&◌, ◌+◌, ℕ, Bool, not, add-one}
use Rattle.words.specs.Vocab.{any}

-- none below i, and not i itself
pub none_more : (f : ℕ → Bool) (i : ℕ) {a b : Bool} → a ≡ not (any f i) → b ≡ (a && not (f i)) → b ≡ not (any f (i + 1))
unfolding any
none_more f i p q = rw (add-one, q, p) (grind arith)
