-- A good first record, and the tree that reset by it gives.
use mathlib.Core.Path.{◌≡◌, refl, ◌∙◌, sym, subst, subst⁻¹}
use mathlib.Core.Bool.{Bool, true, false, ◌&&◌}
use mathlib.Core.List.{List}
use mathlib.Core.Logic.{◌⊎◌, inl, inr}
use Prim.Native.Nat.{ℕ, ◌+◌, ◌≤◌}
use native.Mathlib.Omega.{arith}
use borrow.Author.Tests.{leb-true}
use lib.ListN.{replicate}
use lib.Dec.{leb}
use Rattle.words.specs.Vocab.{choose}
use Rattle.words.proofs.Facts.{both, decided, choose_true, choose_false}
use Rattle.rules.specs.Codes.{node_limit, accepts, bad_tree}
use Rattle.rules.specs.Tree.{tree_ok, good_tree}
use Rattle.std.specs.Prelude.{Result, Ok}
use Rattle.rules.specs.Refusals.{reset_said}
use Rattle.rules.specs.Step.{accepted, reset_of}
use Rattle.rules.specs.declared.Refusal.{Refusal}
use Rattle.rules.specs.declared.State.{State}
use Rattle.rules.specs.declared.Answer.{Answer}
use Rattle.laws.proofs.ResetTree.{reset_tree}
use Rattle.octets.specs.Prefixed.{reach}
use Rattle.octets.specs.Versions.{longest_first}
use Rattle.octets.proofs.VersionRows.{longest_fits}
use Rattle.opening.specs.Opening.{shortest, first_ok, first_length, first_value, count_of, parents_of, First, reset_asked, reset_by}

-- a good first record, as the test and as its clauses
first_good : (v : ℕ) (s : List ℕ) → first_ok v s ≡ true → First v s
unfolding first_ok
first_good v s h =
    let n = first_length s in
    let m = longest_first v in
    let f = both (leb shortest n && leb n m) (leb (3 + n) (reach s)) h in
    let g = both (leb shortest n) (leb n m) f.0 in
    record { low = leb-true shortest n g.0; high = leb-true n m g.1; whole = leb-true (3 + n) (reach s) f.1 }

-- a good first record is long enough for a parent, and names no more nodes than the limit
module _ (v : ℕ) (s : List ℕ) {b : Bool} (e : b ≡ first_ok v s) (t : b ≡ true) where
  is_first : First v s
  is_first = first_good v s (sym e ∙ t)

  pub some_node : shortest ≤ first_length s
  some_node = is_first.low

  pub few_nodes : first_length s ≤ node_limit + 7
  few_nodes = omega (arith, is_first.high, longest_fits v)

-- what reset answers, by what the code handed it
pub reset_asked_lem : (s : List ℕ) {n v : ℕ} {ps : List ℕ} {a : Answer} → n ≡ count_of s → ps ≡ parents_of s n → v ≡ first_value s → a ≡ reset_of n ps v → a ≡ reset_asked s
unfolding reset_asked
reset_asked_lem s e f g h = h ∙ rw (f, e, g)

no_tree : (reset_of 0 (replicate node_limit 0) 0).number ≡ bad_tree
unfolding reset_of tree_ok choose
no_tree = refl

-- reset that is accepted had a good first record, and gives a good tree
module _ (v : ℕ) (s : List ℕ) {r : Result State Refusal} {c : State} (f : reset_said r ≡ reset_by v s) (is : r ≡ Ok c) where
  e : accepted 0 c ≡ reset_by v s
  e = rw is at f

  resets : (reset_by v s).number ≡ accepts
  resets = subst (λ (x : Answer). x.number ≡ accepts) e refl

  passed : first_ok v s ≡ true
  unfolding reset_by
  passed = go (decided (first_ok v s))
    where
      go : (first_ok v s ≡ true) ⊎ (first_ok v s ≡ false) → first_ok v s ≡ true
      go (inl t) = t
      go (inr t) = absurd (omega (arith, no_tree, rw (choose_false _ _ t) at resets))

  pub opened_first : First v s
  opened_first = first_good v s passed

  pub opened_tree : good_tree c ≡ true
  unfolding reset_by reset_asked
  opened_tree =
      subst⁻¹ (λ (x : Answer). good_tree x.state ≡ true) (e ∙ choose_true _ _ passed)
      (reset_tree (count_of s) (parents_of s (count_of s)) (first_value s) (subst (λ (x : Answer). x.number ≡ accepts) (choose_true _ _ passed) resets))
