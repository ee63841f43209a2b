-- What a step at node x writes: the rights and the fields of x, one link, and the row of x in the entries and in the two sets.
-- Nothing else moves: this is how the step is defined, so it is one law for every kind.
use mathlib.Core.Path.{◌≡◌, refl, ◌∙◌}
use mathlib.Core.Bool.{Bool, false, not, ◌&&◌}
use mathlib.Core.List.{List}
use Prim.Native.Nat.{ℕ, ◌<◌}
use native.Mathlib.Decide.{ℕ_discrete}
use native.Mathlib.Omega.{arith}
use lib.ListN.{length, set, get_or}
use lib.Dec.{eqb}
use Rattle.words.specs.Vocab.{any, choose}
use Rattle.words.proofs.Facts.{any_same, choose_at, choose_off}
use Rattle.rules.specs.Codes.{node_limit, cells}
use Rattle.rules.specs.Cells.{blank_node, blank_link, cell, entry, to_probe, pending}
use Rattle.rules.specs.With.{with_phase}
use Rattle.rules.specs.Names.{member_in}
use Rattle.rules.specs.Scenes.{name_in}
use Rattle.rules.specs.Settle.{phase_after}
use Rattle.rules.specs.Local.{held}
use Rattle.rules.specs.Acquire.{purpose_for, probed_for}
use Rattle.rules.specs.Probe.{probed_by}
use Rattle.rules.specs.Table.{Kind}
use Rattle.rules.specs.Step.{probed_in, settled_node, effect_of}
use Rattle.rules.specs.declared.State.{State}
use Rattle.rules.specs.declared.Node.{Node}
use Rattle.rules.specs.declared.Link.{Link}
use Rattle.rules.specs.declared.Scene.{Scene}
use Rattle.rules.specs.declared.Event.{Event}
use Rattle.rules.specs.declared.kinds.Probes.{Probes}
use Rattle.rules.specs.declared.kinds.Probes.TheVariants.{Stay, Held, Asked, Capped}
use Rattle.writes.proofs.Put.{Put, put, Row, row_put, row_over, row_as}

-- The arrays of a State are as long as its type says.
pub record Sized (s : State) : Type 0 where
  pub parents : length s.parents ≡ node_limit
  pub rights : length s.rights ≡ node_limit
  pub entries : length s.entries ≡ cells
  pub to_probe : length s.to_probe ≡ cells
  pub pending : length s.pending ≡ cells
  pub links : length s.links ≡ node_limit
  pub nodes : length s.nodes ≡ node_limit

-- t is s after a step at x that leaves the rights r and the fields m there, the link of j as l, and the rows es, ws and ps.
pub record Writes (s t : State) (x j r : ℕ) (m : Node) (l : Link) (es : ℕ → ℕ) (ws ps : ℕ → Bool) : Type 0 where
  pub count : t.count ≡ s.count
  pub parents : t.parents ≡ s.parents
  pub rights : Put 0 s.rights t.rights x r
  pub nodes : Put blank_node s.nodes t.nodes x m
  pub links : Put blank_link s.links t.links j l
  pub entries : Row 0 s.entries t.entries x es
  pub to_probe : Row false s.to_probe t.to_probe x ws
  pub pending : Row false s.pending t.pending x ps

pub sized : {s t : State} {x j r : ℕ} {m : Node} {l : Link} {es : ℕ → ℕ} {ws ps : ℕ → Bool} → Sized s → Writes s t x j r m l es ws ps → Sized t
sized z w = record {
  parents = rw w.parents z.parents;
  rights = w.rights.size ∙ z.rights;
  entries = w.entries.size ∙ z.entries;
  to_probe = w.to_probe.size ∙ z.to_probe;
  pending = w.pending.size ∙ z.pending;
  nodes = w.nodes.size ∙ z.nodes;
  links = w.links.size ∙ z.links;
}

-- the row with v at k
abbrev pub with_at : {A : Type 0} → (ℕ → A) → ℕ → A → ℕ → A
with_at f k v j = choose (eqb j k) v (f j)

-- both rows have no member
abbrev pub no_members : (ℕ → Bool) → (ℕ → Bool) → Bool
no_members ws ps = not (any ws node_limit) && not (any ps node_limit)

-- the fields m, with the rights r and the sets ws and ps, after settle
abbrev pub settled_by : Bool → (ℕ → Bool) → (ℕ → Bool) → ℕ → Node → Node
settled_by new ws ps r m = with_phase m (phase_after (no_members ws ps) new m.phase m.purpose r)

-- the row of to-probe that a kind leaves, where b is what its effect says of the child at j
abbrev pub probed_row : Probes → State → ℕ → ℕ → Scene → ℕ → Bool → ℕ → Bool
probed_row Stay s x j v q b = with_at (to_probe s x) j b
probed_row Held s x j v q b = λ k. held (entry s x k)
probed_row Asked s x j v q b = λ k. probed_for (purpose_for v.link.a) (name_in v) q (entry s x k) k
probed_row Capped s x j v q b = λ k. probed_by v.link.b (entry s x k)

-- a set's row as it is read
members : {l l' : List Bool} {x : ℕ} {f : ℕ → Bool} → Row false l l' x f → member_in l' x ≡ any f node_limit
unfolding member_in
members {l' = l'} {x = x} {f = f} w = any_same (λ k. get_or l' (cell x k) false) f node_limit w.at

module _ (s : State) (z : Sized s) (x : ℕ) (hx : x < node_limit) where
  nx : x < length s.nodes
  nx = omega (arith, z.nodes)

  rx : x < length s.rights
  rx = omega (arith, z.rights)

  module _ (j : ℕ) (hj : j < node_limit) where
    lj : j < length s.links
    lj = omega (arith, z.links)

    probed_row_lem : (p : Probes) (v : Scene) (q : ℕ) (b : Bool)
        → Row false s.to_probe (probed_in p v q s.entries x (set s.to_probe (cell x j) b)) x (probed_row p s x j v q b)
    unfolding probed_in
    probed_row_lem Stay v q b = row_put _ _ x j b z.to_probe hx hj
    probed_row_lem Held v q b = row_over _ _ x j b _ z.to_probe hx hj
    probed_row_lem Asked v q b = row_over _ _ x j b _ z.to_probe hx hj
    probed_row_lem Capped v q b = row_over _ _ x j b _ z.to_probe hx hj

    -- the law: what the effect w of the kind k leaves, with the rows es, ws and ps as they are read
    pub effect_writes : (k : Kind) (e : Event) (v w : Scene) {es : ℕ → ℕ} {ws ps : ℕ → Bool}
        → ((i : ℕ) → i < node_limit → with_at (entry s x) j w.entry i ≡ es i)
        → ((i : ℕ) → i < node_limit → probed_row k.row.probes s x j v e.other w.to_probe i ≡ ws i)
        → ((i : ℕ) → i < node_limit → with_at (pending s x) j w.pending i ≡ ps i)
        → Writes s (effect_of k s x j e v w) x j w.rights (settled_node k.row.settles (no_members ws ps) w.node w.rights) w.link es ws ps
    effect_writes k e v w {es} {ws} {ps} f g h = record {
      count = refl;
      parents = refl;
      rights = put _ _ x _ rx;
      nodes = rw (← members listed, ← members waits) (put _ _ x _ nx);
      links = put _ _ j _ lj;
      entries = row_as f (row_put _ _ x j _ z.entries hx hj);
      to_probe = listed;
      pending = waits;
    }
      where
        listed : Row false s.to_probe (probed_in k.row.probes v e.other s.entries x (set s.to_probe (cell x j) w.to_probe)) x ws
        listed = row_as g (probed_row_lem k.row.probes v e.other w.to_probe)

        waits : Row false s.pending (set s.pending (cell x j) w.pending) x ps
        waits = row_as h (row_put _ _ x j _ z.pending hx hj)

-- a row written with what stood there
pub with_same : {A : Type 0} (f : ℕ → A) (k j : ℕ) → with_at f k (f k) j ≡ f j
with_same f k j = go (ℕ_discrete j k)
  where
    go : Dec (j ≡ k) → with_at f k (f k) j ≡ f j
    go (yes e) = rw (choose_at j k (f k) (f j) e, e)
    go (no n) = choose_off j k (f k) (f j) n
