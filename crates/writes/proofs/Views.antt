-- What a clause on a link sees: the two nodes at its ends, and what the parent knows of the child.
use mathlib.Core.Bool.{Bool}
use Prim.Native.Nat.{ℕ}
use Rattle.rules.specs.Cells.{parent, rights, entry, to_probe, pending, node, link}
use Rattle.rules.specs.declared.State.{State}
use Rattle.rules.specs.declared.Node.{Node}
use Rattle.rules.specs.declared.Link.{Link}

-- the parent's fields, the child's fields and rights, the parent's entry and set members for the child, the slots
pub record View : Type 0 where
  pub above : Node
  pub below : Node
  pub rights : ℕ
  pub entry : ℕ
  pub to_probe : Bool
  pub pending : Bool
  pub link : Link

-- the link between x and its child k
abbrev pub view_at : State → ℕ → ℕ → View
view_at s x k = record {
  above = node s x;
  below = node s k;
  rights = rights s k;
  entry = entry s x k;
  to_probe = to_probe s x k;
  pending = pending s x k;
  link = link s k;
}

-- the link of k
abbrev pub view : State → ℕ → View
view s k = view_at s (parent s k) k

-- the link of x after a step there that leaves the rights r, the fields m and the slots l
abbrev pub own_view : State → ℕ → ℕ → Node → Link → View
own_view s x r m l = record {
  above = node s (parent s x);
  below = m;
  rights = r;
  entry = entry s (parent s x) x;
  to_probe = to_probe s (parent s x) x;
  pending = pending s (parent s x) x;
  link = l;
}

-- the link of a child k after a step at its parent that leaves the fields m, the entry e, the set members and the slots l
abbrev pub child_view : State → ℕ → Node → ℕ → Bool → Bool → Link → View
child_view s k m e listed waits l = record {
  above = m;
  below = node s k;
  rights = rights s k;
  entry = e;
  to_probe = listed;
  pending = waits;
  link = l;
}
