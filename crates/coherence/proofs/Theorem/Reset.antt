-- Reset on a good tree satisfies the invariant with the first value.
use mathlib.Core.Path.{◌≡◌, refl, ap}
use mathlib.Core.Bool.{true, false, false≢true}
use mathlib.Core.Logic.{◌≢◌}
use mathlib.Core.List.{List}
use Prim.Native.Nat.{ℕ, ◌<◌, ◌≤◌}
use native.Mathlib.Decide.{ℕ_discrete}
use native.Mathlib.Omega.{arith}
use borrow.Author.Tests.{ne_eqb}
use Rattle.rules.specs.Codes.{node_limit, rights_n, tip, none, no_child}
use Rattle.rules.specs.With.{with_value}
use Rattle.rules.specs.Cells.{blank_node, blank_link, parent, rights, entry, to_probe, pending, node, value}
use Rattle.rules.specs.Tree.{tree_ok}
use Rattle.rules.specs.Messages.{carries_down}
use Rattle.rules.specs.Release.{awaits}
use Rattle.rules.specs.Step.{start_of}
use Rattle.rules.specs.declared.State.{State}
use Rattle.rules.specs.declared.Node.{Node}
use Rattle.writes.proofs.Accepted.{Tree, tree}
use Rattle.writes.proofs.Views.{View, view}
use Rattle.laws.proofs.ResetTree.{start_tree}
use Rattle.closed.proofs.Reset.{start_sized, start_configuration, root_fields, start_link, start_rights, start_fields, start_entry, start_listed, start_waits}
use Rattle.coherence.proofs.Invariant.Clauses.{agrees, exactly, LinkOk, NodeOk, Inv}

-- a link on which nothing happens, below a node with the value u
abbrev still : ℕ → View
still u = record { above = with_value blank_node u; below = blank_node; rights = rights_n; entry = none; to_probe = false; pending = false; link = blank_link }

still_ok : (u k v : ℕ) → 0 < k → LinkOk v (still u) k
unfolding agrees exactly carries_down awaits
still_ok u k v a =
    let n : no_child ≢ k = omega arith in
    record {
      grants = refl;
      probes = refl;
      releases = rw (ne_eqb no_child k n);
      agree = refl;
      exact = refl;
      copy = λ z _. absurd (z refl);
      granted = λ h. absurd (false≢true h);
      last = λ e _. absurd (omega arith);
    }

module _ (n : ℕ) (ps : List ℕ) (v : ℕ) (ok : tree_ok n ps ≡ true) where
  abbrev s : State
  s = start_of n ps v

  good : Tree s.count s.parents
  good = tree _ _ (start_tree n ps v ok)

  small : (y : ℕ) → y < s.count → y < node_limit
  small y h = let a : s.count ≤ node_limit = good.most in omega arith

  -- a node's fields are blank but for its value
  fields : (y : ℕ) → y < node_limit → Dec (y ≡ 0) → (u : ℕ) × (node s y ≡ with_value blank_node u)
  fields y h (yes e) = (v, rw e (root_fields n ps v))
  fields y h (no o) = (0, start_fields n ps v y h o)

  links : (k : ℕ) → 0 < k → k < s.count → LinkOk v (view s k) k
  links k a b =
      let l : k < node_limit = small k b in
      let p : parent s k < k = good.smaller k a b in
      let pl : parent s k < node_limit = omega arith in
      let o : k ≢ 0 = omega arith in
      let f = fields (parent s k) pl (ℕ_discrete (parent s k) 0) in
      rw (f.1, start_fields n ps v k l o, start_rights n ps v k l o, start_entry n ps v (parent s k) k pl l, start_listed n ps v (parent s k) k pl l, start_waits n ps v (parent s k) k pl l, start_link n ps v k l)
      (still_ok f.0 k v a)

  root : rights s 0 ≡ tip
  unfolding start_of
  root = refl

  nodes_ok : (y : ℕ) → y < s.count → NodeOk v y (rights s y) (node s y) (entry s y) (to_probe s y) (pending s y)
  nodes_ok y h =
      let l = small y h in
      let f = fields y l (ℕ_discrete y 0) in
      record {
        root = λ e. rw e root;
        row = λ a b la lb _ _. start_entry n ps v y b l lb;
        probe = λ e. absurd (false≢true (rw f.1 at e));
        sets = λ k b e. absurd (false≢true (rw (start_listed n ps v y k l b, start_waits n ps v y k l b) at e));
        apart = λ k b _. start_waits n ps v y k l b;
        last = λ t _. last l t (ℕ_discrete y 0);
      }
    where
      last : y < node_limit → rights s y ≡ tip → Dec (y ≡ 0) → value s y ≡ v
      last l t (yes e) = rw e (ap (λ (m : Node). m.value) (root_fields n ps v))
      last l t (no o) = let z : rights s y ≡ rights_n = start_rights n ps v y l o in absurd (omega arith)

  pub start_inv : Inv (start_of n ps v) v
  start_inv = record { sized = start_sized n ps v; tree = start_tree n ps v ok; valid = start_configuration n ps v ok; links = links; nodes = nodes_ok }
