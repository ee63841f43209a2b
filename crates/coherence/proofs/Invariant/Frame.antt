-- The frame of a step, at the clauses of the invariant: what is left to show is the clauses at x, on its link and on its children's.
use mathlib.Core.Path.{◌≡◌, sym, ◌∙◌}
use mathlib.Core.Bool.{Bool, true}
use mathlib.Core.Logic.{◌≢◌}
use Prim.Native.Nat.{ℕ, ◌<◌}
use Rattle.rules.specs.Cells.{link}
use Rattle.rules.specs.Configuration.{configuration_ok}
use Rattle.rules.specs.declared.State.{State}
use Rattle.rules.specs.declared.Node.{Node}
use Rattle.rules.specs.declared.Link.{Link}
use Rattle.writes.proofs.Writes.{Writes, sized}
use Rattle.writes.proofs.Needs.{Child}
use Rattle.writes.proofs.Accepted.{tree}
use Rattle.writes.proofs.Views.{own_view, child_view}
use Rattle.writes.proofs.Frame.{Everywhere, Cellwise, Elsewhere, elsewhere_same, frame_own, frame_child}
use Rattle.coherence.proofs.Invariant.Clauses.{LinkOk, NodeOk, Inv}

cellwise : (v : ℕ) → Cellwise (NodeOk v)
cellwise v = record {
  same = λ h i j q. record {
    root = q.root;
    row = λ a b la lb n e. h b lb ∙ q.row a b la lb n (sym (h a la) ∙ e);
    probe = q.probe;
    sets = λ k l. rw (i k l, j k l) (q.sets k l);
    apart = λ k l e. j k l ∙ q.apart k l (sym (i k l) ∙ e);
    last = λ e n. q.last e (λ k l z. n k l (h k l ∙ z));
  };
}

everywhere : {s : State} {v : ℕ} → Inv s v → Everywhere (LinkOk v) (NodeOk v) s
everywhere i = record { links = i.links; nodes = i.nodes }

module _ {s t : State} {x j r : ℕ} {m : Node} {l : Link} {es : ℕ → ℕ} {ws ps : ℕ → Bool} {v v' : ℕ}
    (i : Inv s v) (w : Writes s t x j r m l es ws ps) (valid : configuration_ok t ≡ true) (all : Everywhere (LinkOk v') (NodeOk v') t) where
  inv : Inv t v'
  inv = record { sized = sized i.sized w; tree = rw (w.count, w.parents) i.tree; valid = valid; links = all.links; nodes = all.nodes }

-- A step at x that writes the link of x.
module _ {s t : State} {x r : ℕ} {m : Node} {l : Link} {es : ℕ → ℕ} {ws ps : ℕ → Bool} {v : ℕ}
    (i : Inv s v) (inside : x < s.count) (w : Writes s t x x r m l es ws ps) (valid : configuration_ok t ≡ true) where
  -- and that stores the value v'
  pub store_step : (v' : ℕ) → Elsewhere (LinkOk v) (LinkOk v') (NodeOk v) (NodeOk v') s x → NodeOk v' x r m es ws ps
      → (0 < x → LinkOk v' (own_view s x r m l) x)
      → ((k : ℕ) → Child s x k → LinkOk v' (child_view s k m (es k) (ws k) (ps k) (link s k)) k)
      → Inv t v'
  store_step v' elsewhere here own below =
      inv i w valid (frame_own (cellwise v') (everywhere i) elsewhere (tree _ _ i.tree) inside w here own below)

  -- and that stores nothing
  pub own_step : NodeOk v x r m es ws ps
      → (0 < x → LinkOk v (own_view s x r m l) x)
      → ((k : ℕ) → Child s x k → LinkOk v (child_view s k m (es k) (ws k) (ps k) (link s k)) k)
      → Inv t v
  own_step = store_step v (elsewhere_same _ _ s x)

-- A step at x that writes the link of its child j.
module _ {s t : State} {x j r : ℕ} {m : Node} {l : Link} {es : ℕ → ℕ} {ws ps : ℕ → Bool} {v : ℕ}
    (i : Inv s v) (inside : x < s.count) (child : Child s x j) (w : Writes s t x j r m l es ws ps) (valid : configuration_ok t ≡ true) where
  pub child_step : NodeOk v x r m es ws ps
      → (0 < x → LinkOk v (own_view s x r m (link s x)) x)
      → LinkOk v (child_view s j m (es j) (ws j) (ps j) l) j
      → ((k : ℕ) → Child s x k → k ≢ j → LinkOk v (child_view s k m (es k) (ws k) (ps k) (link s k)) k)
      → Inv t v
  child_step here own acted others =
      inv i w valid (frame_child (cellwise v) (everywhere i) (elsewhere_same _ _ s x) (tree _ _ i.tree) inside child w here own acted others)
