-- One look at each node tells the leaves: the loop of `leaf_flags`, as a definition on the count and the parents.
use mathlib.Core.Path.{◌≡◌, refl, ◌∙◌, sym, ap}
use mathlib.Core.Bool.{Bool, true, false, not, ◌&&◌, ◌||◌, and-true, and-false}
use mathlib.Core.List.{List}
use mathlib.Core.Logic.{◌≢◌}
use Prim.Native.Nat.{ℕ, zero, suc, ◌+◌, ◌<◌, ◌≤◌}
use native.Mathlib.Numerals.{add-one}
use native.Mathlib.Decide.{ℕ_discrete}
use native.Mathlib.Omega.{arith}
use borrow.Author.Tests.{eq-eqb, ne_eqb, lt-ltb}
use lib.ListN.{get_or, get_or-replicate, set, replicate, length, length-set, length-replicate}
use lib.Seq.{get_or-set_same, get_or-set_other}
use lib.Dec.{eqb, ltb}
use Rattle.std.proofs.lemmas.List.{ext_get_or}
use Rattle.words.specs.Vocab.{any, choose}
use Rattle.words.proofs.Facts.{by_test}
use Rattle.rules.specs.Codes.{node_limit}
use Rattle.rules.specs.Tree.{child_by, child_in, leaf_in}

-- the flags of the leaves once node k, with the parent p, has been looked at: p is struck off
unfoldable pub struck : ℕ → ℕ → ℕ → List Bool → List Bool
struck n p k l = choose (ltb k n && not (eqb k 0) && ltb p node_limit) (set l p false) l

-- the flags once the nodes below k have been looked at; at the last, those of the leaves
unfoldable pub leaf_flags : ℕ → List ℕ → ℕ → List Bool
leaf_flags n ps zero = replicate node_limit true
leaf_flags n ps (suc k) = struck n (get_or ps k 0) k (leaf_flags n ps k)

-- the loop over the nodes: a look more, and the last
pub look_next : (n : ℕ) (ps : List ℕ) (k : ℕ) {l m : List Bool} → l ≡ leaf_flags n ps k → m ≡ struck n (get_or ps k 0) k l → m ≡ leaf_flags n ps (k + 1)
unfolding leaf_flags
look_next n ps k p q = rw (add-one, ← p) q

pub look_last : (n : ℕ) (ps : List ℕ) {k : ℕ} {l : List Bool} → k ≤ node_limit → node_limit ≤ k → l ≡ leaf_flags n ps k → l ≡ leaf_flags n ps node_limit
look_last n ps {k} h m p = let e : k ≡ node_limit = omega arith in rw e at p

-- a look at a node with the parent p, which is a node of the tree but the root if a holds, changes the flag of p alone
look : (a : Bool) (p x : ℕ) (l : List Bool) (d : Bool) → length l ≡ node_limit → x < node_limit → get_or (choose (a && ltb p node_limit) (set l p false) l) x d ≡ (get_or l x d && not (a && eqb p x))
unfolding choose
look false p x l d h m = sym (and-true (get_or l x d))
look true p x l d h m = go (ℕ_discrete p x)
  where
    go : Dec (p ≡ x) → get_or (choose (ltb p node_limit) (set l p false) l) x d ≡ (get_or l x d && not (eqb p x))
    go (yes e) =
        let b : x < length l = omega (arith, h) in
        rw (e, lt-ltb x node_limit m, eq-eqb x x refl) (get_or-set_same l x false d b ∙ sym (and-false (get_or l x d)))
    go (no o) =
        let q : x ≢ p = λ e. o (sym e) in
        rw (ne_eqb p x o) (by_test (λ t. get_or t x d ≡ get_or l x d) (ltb p node_limit) (set l p false) l (λ t. get_or-set_other l p x false d q) (λ t. refl) ∙ sym (and-true (get_or l x d)))

pub flags_long : (n : ℕ) (ps : List ℕ) (k : ℕ) → length (leaf_flags n ps k) ≡ node_limit
unfolding leaf_flags struck
flags_long n ps zero = length-replicate node_limit true
flags_long n ps (suc k) =
    by_test (λ t. length t ≡ node_limit) _ (set (leaf_flags n ps k) (get_or ps k 0) false) (leaf_flags n ps k) (λ t. length-set (leaf_flags n ps k) (get_or ps k 0) false ∙ flags_long n ps k) (λ t. flags_long n ps k)

-- de Morgan
not_or : (a b : Bool) → (not a && not b) ≡ not (a || b)
not_or true b = refl
not_or false b = refl

looked : (n : ℕ) (ps : List ℕ) (x k : ℕ) (d : Bool) → x < node_limit → get_or (leaf_flags n ps k) x d ≡ not (any (child_in n ps x) k)
unfolding leaf_flags struck child_by any
looked n ps x zero d m = get_or-replicate node_limit x true d m
looked n ps x (suc k) d m =
    look (ltb k n && not (eqb k 0)) (get_or ps k 0) x (leaf_flags n ps k) d (flags_long n ps k) m
    ∙ ap (λ t. t && not (child_in n ps x k)) (looked n ps x k d m)
    ∙ not_or (any (child_in n ps x) k) (child_in n ps x k)

-- the flag of x once every node has been looked at
pub leaf_flag : (n : ℕ) (ps : List ℕ) {x : ℕ} (d : Bool) {l : List Bool} → l ≡ leaf_flags n ps node_limit → x < node_limit → get_or l x d ≡ leaf_in n ps x
unfolding leaf_in
leaf_flag n ps {x} d p m = rw p (looked n ps x node_limit d m)

-- what the code of `leaf_flags` answers, by its type and its clause, is the definition
pub flags_told : (n : ℕ) (ps : List ℕ) (l : List Bool) → length l ≡ node_limit → ((x : ℕ) → x < node_limit → get_or l x false ≡ leaf_in n ps x) → l ≡ leaf_flags n ps node_limit
flags_told n ps l h f =
    ext_get_or false l (leaf_flags n ps node_limit) (h ∙ sym (flags_long n ps node_limit)) λ x m.
    let inside : x < node_limit = omega (arith, h) in f x inside ∙ sym (leaf_flag n ps false refl inside)
