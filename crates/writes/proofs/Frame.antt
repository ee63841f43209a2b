-- The frame, for any clauses on links and nodes: after a step at x they hold everywhere, if they hold at x, on the link of x and on the
-- links of its children, and if they go on holding where nothing moved.
use mathlib.Core.Path.{◌≡◌, refl, sym, ◌∙◌, ap, subst}
use mathlib.Core.Bool.{Bool}
use mathlib.Core.Logic.{◌≢◌, ◌⊎◌, inl, inr}
use Prim.Native.Nat.{ℕ, ◌<◌, ◌≤◌}
use native.Mathlib.Decide.{ℕ_discrete}
use native.Mathlib.Omega.{arith}
use Rattle.rules.specs.Codes.{node_limit}
use Rattle.rules.specs.Cells.{parent, rights, entry, to_probe, pending, node, link}
use Rattle.rules.specs.declared.State.{State}
use Rattle.rules.specs.declared.Node.{Node}
use Rattle.rules.specs.declared.Link.{Link}
use Rattle.writes.proofs.Writes.{Writes}
use Rattle.writes.proofs.Needs.{Child}
use Rattle.writes.proofs.Accepted.{Tree}
use Rattle.writes.proofs.Views.{View, view, own_view, child_view}

-- Clauses on the link of k, and on the node x with its rights, its fields, its entries, to-probe and pending.
abbrev pub LinkClauses : Type 1
LinkClauses = View → ℕ → Type 0

abbrev pub NodeClauses : Type 1
NodeClauses = ℕ → ℕ → Node → (ℕ → ℕ) → (ℕ → Bool) → (ℕ → Bool) → Type 0

-- they hold at every link and node
pub record Everywhere (L : LinkClauses) (N : NodeClauses) (s : State) : Type 0 where
  pub links : (k : ℕ) → 0 < k → k < s.count → L (view s k) k
  pub nodes : (x : ℕ) → x < s.count → N x (rights s x) (node s x) (entry s x) (to_probe s x) (pending s x)

-- clauses on a node read the cells of its rows, one by one
pub record Cellwise (N : NodeClauses) : Type 0 where
  pub same : {x r : ℕ} {m : Node} {es es' : ℕ → ℕ} {ws ws' ps ps' : ℕ → Bool}
      → ((k : ℕ) → k < node_limit → es' k ≡ es k) → ((k : ℕ) → k < node_limit → ws' k ≡ ws k) → ((k : ℕ) → k < node_limit → ps' k ≡ ps k)
      → N x r m es ws ps → N x r m es' ws' ps'

-- off x and the links around it the clauses L and N give L' and N'
pub record Elsewhere (L L' : LinkClauses) (N N' : NodeClauses) (s : State) (x : ℕ) : Type 0 where
  pub links : (k : ℕ) → 0 < k → k < s.count → k ≢ x → parent s k ≢ x → L (view s k) k → L' (view s k) k
  pub nodes : (y : ℕ) → y < s.count → y ≢ x → N y (rights s y) (node s y) (entry s y) (to_probe s y) (pending s y)
      → N' y (rights s y) (node s y) (entry s y) (to_probe s y) (pending s y)

-- as they do where the clauses stay the same
pub elsewhere_same : (L : LinkClauses) (N : NodeClauses) (s : State) (x : ℕ) → Elsewhere L L N N s x
elsewhere_same L N s x = record { links = λ k _ _ _ _ h. h; nodes = λ y _ _ h. h }

view_same : {a a' b b' : Node} {r r' e e' : ℕ} {p p' q q' : Bool} {l l' : Link} → a ≡ a' → b ≡ b' → r ≡ r' → e ≡ e' → p ≡ p' → q ≡ q' → l ≡ l'
    → ◌≡◌ {A = View} (record { above = a; below = b; rights = r; entry = e; to_probe = p; pending = q; link = l })
    (record { above = a'; below = b'; rights = r'; entry = e'; to_probe = p'; pending = q'; link = l' })
view_same f g h i j k l = rw (f, g, h, i, j, k, l)

-- a child is another node than its parent
pub child_other : {s : State} → Tree s.count s.parents → {x k : ℕ} → Child s x k → k ≢ x
child_other {s} good {x} {k} c e =
    let n : k ≢ 0 = c.below in
    let l : parent s k < k = good.smaller k (omega arith) c.inside in
    let p : parent s k ≡ x = c.parent in
    omega arith

module _ {s t : State} {x j r : ℕ} {m : Node} {l : Link} {es : ℕ → ℕ} {ws ps : ℕ → Bool} (w : Writes s t x j r m l es ws ps)
    (good : Tree s.count s.parents) (inside : x < s.count) where
  small : (k : ℕ) → k < s.count → k < node_limit
  small k h = let a : s.count ≤ node_limit = good.most in omega arith

  own_view_lem : 0 < x → view t x ≡ own_view s x r m (link t x)
  own_view_lem a =
      let up : parent s x < x = good.smaller x a inside in
      let n : parent s x ≢ x = omega arith in
      let b : x < node_limit = small x inside in
      rw w.parents
      (view_same (w.nodes.off _ n) w.nodes.at w.rights.at (w.entries.off _ x b n) (w.to_probe.off _ x b n) (w.pending.off _ x b n) refl)

  child_view_lem : (k : ℕ) → Child s x k → view t k ≡ child_view s k m (es k) (ws k) (ps k) (link t k)
  child_view_lem k c =
      let b : k < node_limit = small k c.inside in
      let n : k ≢ x = child_other good c in
      rw (w.parents, c.parent)
      (view_same w.nodes.at (w.nodes.off k n) (w.rights.off k n) (w.entries.at k b) (w.to_probe.at k b) (w.pending.at k b) refl)

  far_view : (k : ℕ) → k < s.count → k ≢ x → parent s k ≢ x → k ≢ j → view t k ≡ view s k
  far_view k h a n o =
      let b : k < node_limit = small k h in
      rw w.parents
      (view_same (w.nodes.off _ n) (w.nodes.off k a) (w.rights.off k a) (w.entries.off _ k b n) (w.to_probe.off _ k b n) (w.pending.off _ k b n) (w.links.off k o))

  -- the frame, with the link of j as x's own or a child's
  module _ {L L' : LinkClauses} {N N' : NodeClauses} (near : (j ≡ x) ⊎ Child s x j) (cells : Cellwise N') (before : Everywhere L N s)
      (elsewhere : Elsewhere L L' N N' s x) where
    frame : N' x r m es ws ps → (0 < x → L' (own_view s x r m (link t x)) x)
        → ((k : ℕ) → Child s x k → L' (child_view s k m (es k) (ws k) (ps k) (link t k)) k) → Everywhere L' N' t
    frame here own below = record {
      links = λ k a b. links k a (subst (λ (n : ℕ). k < n) w.count b) (ℕ_discrete k x) (ℕ_discrete (parent s k) x);
      nodes = λ y b. at y (subst (λ (n : ℕ). y < n) w.count b) (ℕ_discrete y x);
    }
      where
        far : (k : ℕ) → k ≢ x → parent s k ≢ x → (j ≡ x) ⊎ Child s x j → k ≢ j
        far k a b (inl f) e = a (e ∙ f)
        far k a b (inr c) e = b (ap (parent s) e ∙ c.parent)

        links : (k : ℕ) → 0 < k → k < s.count → Dec (k ≡ x) → Dec (parent s k ≡ x) → L' (view t k) k
        links k a b (yes e) d =
            let a' : 0 < x = omega arith in
            subst (λ (n : ℕ). L' (view t n) n) (sym e) (subst (λ (y : View). L' y x) (sym (own_view_lem a')) (own a'))
        links k a b (no n) (yes e) =
            let c : Child s x k = record { inside = b; below = λ z. omega arith; parent = e } in
            subst (λ (y : View). L' y k) (sym (child_view_lem k c)) (below k c)
        links k a b (no n) (no o) =
            subst (λ (y : View). L' y k) (sym (far_view k b n o (far k n o near))) (elsewhere.links k a b n o (before.links k a b))

        at : (y : ℕ) → y < s.count → Dec (y ≡ x) → N' y (rights t y) (node t y) (entry t y) (to_probe t y) (pending t y)
        at y b (yes e) =
            subst (λ (n : ℕ). N' n (rights t n) (node t n) (entry t n) (to_probe t n) (pending t n)) (sym e)
            (rw (w.rights.at, w.nodes.at) (cells.same w.entries.at w.to_probe.at w.pending.at here))
        at y b (no n) =
            rw (w.rights.off y n, w.nodes.off y n)
            (cells.same (λ k l. w.entries.off y k l n) (λ k l. w.to_probe.off y k l n) (λ k l. w.pending.off y k l n) (elsewhere.nodes y b n (before.nodes y b)))

-- A step at x that writes the link of x.
module _ {s t : State} {x r : ℕ} {m : Node} {l : Link} {es : ℕ → ℕ} {ws ps : ℕ → Bool} {L L' : LinkClauses} {N N' : NodeClauses}
    (cells : Cellwise N') (before : Everywhere L N s) (elsewhere : Elsewhere L L' N N' s x)
    (good : Tree s.count s.parents) (inside : x < s.count) (w : Writes s t x x r m l es ws ps) where
  pub frame_own : N' x r m es ws ps → (0 < x → L' (own_view s x r m l) x)
      → ((k : ℕ) → Child s x k → L' (child_view s k m (es k) (ws k) (ps k) (link s k)) k) → Everywhere L' N' t
  frame_own here own below =
      frame w good inside (inl refl) cells before elsewhere here (λ a. rw w.links.at (own a))
      (λ k c. rw (w.links.off k (child_other good c)) (below k c))

-- A step at x that writes the link of its child j.
module _ {s t : State} {x j r : ℕ} {m : Node} {l : Link} {es : ℕ → ℕ} {ws ps : ℕ → Bool} {L L' : LinkClauses} {N N' : NodeClauses}
    (cells : Cellwise N') (before : Everywhere L N s) (elsewhere : Elsewhere L L' N N' s x)
    (good : Tree s.count s.parents) (inside : x < s.count) (child : Child s x j) (w : Writes s t x j r m l es ws ps) where
  pub frame_child : N' x r m es ws ps → (0 < x → L' (own_view s x r m (link s x)) x) → L' (child_view s j m (es j) (ws j) (ps j) l) j
      → ((k : ℕ) → Child s x k → k ≢ j → L' (child_view s k m (es k) (ws k) (ps k) (link s k)) k) → Everywhere L' N' t
  frame_child here own acted others =
      frame w good inside (inr child) cells before elsewhere here (λ a. rw (w.links.off x (λ e. child_other good child (sym e))) (own a))
      (λ k c. below k c (ℕ_discrete k j))
    where
      below : (k : ℕ) → Child s x k → Dec (k ≡ j) → L' (child_view s k m (es k) (ws k) (ps k) (link t k)) k
      below k c (yes e) = subst (λ (n : ℕ). L' (child_view s n m (es n) (ws n) (ps n) (link t n)) n) (sym e) (rw w.links.at acted)
      below k c (no n) = rw (w.links.off k n) (others k c n)
