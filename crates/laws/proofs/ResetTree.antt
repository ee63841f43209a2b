-- The parents that reset writes, and their tree.
use mathlib.Core.Path.{◌≡◌}
use mathlib.Core.Bool.{true, not, ◌&&◌, ◌||◌}
use mathlib.Core.List.{List}
use Prim.Native.Nat.{ℕ, ◌+◌, ◌<◌, ◌≤◌}
use native.Mathlib.Nat.{zero-add}
use native.Mathlib.Omega.{arith}
use borrow.Author.Tests.{ltb-false, le-leb, not-false}
use lib.ListN.{get_or, length, replicate, length-replicate}
use lib.Dec.{eqb, leb, ltb}
use Rattle.words.proofs.Facts.{both, and_true, or_left, or_right, by_test, all_at, all_from, get_or_fill_at}
use Rattle.rules.specs.Codes.{node_least, node_limit, accepts}
use Rattle.rules.specs.Tree.{parent_ok, tree_ok, good_tree}
use Rattle.rules.specs.Step.{tree_parent, tree_parents, start_of, reset_of}
use Rattle.rules.specs.declared.Answer.{Answer}

-- the parent of node k
pub parent_at : (n : ℕ) (ps : List ℕ) (k : ℕ) → k < node_limit → get_or (tree_parents n ps) k 0 ≡ tree_parent n ps k
unfolding tree_parents
parent_at n ps k h =
    let l : 0 + node_limit ≤ length {A = ℕ} (replicate node_limit 0) = omega (arith, length-replicate {A = ℕ} node_limit 0) in
    rw zero-add at (get_or_fill_at (tree_parent n ps) 0 node_limit (replicate node_limit 0) 0 k l h)

-- the tree is as good as the one that was given
parents_tree : (n : ℕ) (ps : List ℕ) → tree_ok n ps ≡ true → tree_ok n (tree_parents n ps) ≡ true
unfolding tree_ok tree_parent
parents_tree n ps h =
    let u = both (leb node_least n && leb n node_limit) _ h in
    and_true _ _ u.0 (all_from (parent_ok n (tree_parents n ps)) node_limit λ k b. rw (parent_at n ps k b) (go k (all_at (parent_ok n ps) node_limit k u.1 b)))
  where
    go : (k : ℕ) → parent_ok n ps k ≡ true → (eqb k 0 || leb n k || ltb (tree_parent n ps k) k) ≡ true
    go k g =
        by_test Ok (ltb k n) _ _ (λ _. by_test Ok (eqb k 0) _ _ (λ e. rw e) (λ _. g)) λ l.
        or_left _ _ (or_right (eqb k 0) _ (le-leb n k (ltb-false k n l)))
      where
        Ok : ℕ → Type 0
        Ok p = (eqb k 0 || leb n k || ltb p k) ≡ true

pub start_tree : (n : ℕ) (ps : List ℕ) (v : ℕ) → tree_ok n ps ≡ true → good_tree (start_of n ps v) ≡ true
unfolding start_of
start_tree n ps v = parents_tree n ps

-- reset that answers 0 gives a good tree
pub reset_tree : (n : ℕ) (ps : List ℕ) (v : ℕ) → (reset_of n ps v).number ≡ accepts → good_tree (reset_of n ps v).state ≡ true
unfolding reset_of
reset_tree n ps v =
    by_test (λ (a : Answer). a.number ≡ accepts → good_tree a.state ≡ true) (not (tree_ok n ps)) _ _
    (λ _ h. absurd (omega arith)) (λ g _. start_tree n ps v (not-false _ g))
