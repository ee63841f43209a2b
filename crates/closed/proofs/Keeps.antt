-- The one frame law: a step at x gives a configuration if what it writes is right where it is written. Nothing else moved.
use mathlib.Core.Path.{◌≡◌}
use mathlib.Core.Bool.{Bool, true, false, ◌&&◌, ◌||◌}
use mathlib.Core.Logic.{◌≢◌, ◌⊎◌, inl, inr}
use Prim.Native.Nat.{ℕ, ◌<◌, ◌≤◌}
use native.Mathlib.Decide.{ℕ_discrete}
use native.Mathlib.Omega.{arith}
use borrow.Author.Tests.{lt-ltb}
use lib.Dec.{eqb, ltb}
use Rattle.words.proofs.Facts.{both, and_true, or_left, any_at}
use Rattle.rules.specs.Codes.{node_limit}
use Rattle.rules.specs.Cells.{parent, rights, node, link}
use Rattle.rules.specs.Tree.{leaf_in, is_child, is_leaf}
use Rattle.rules.specs.Configuration.{stands_ok, slots_empty, configuration_ok}
use Rattle.rules.specs.declared.State.{State}
use Rattle.rules.specs.declared.Node.{Node}
use Rattle.rules.specs.declared.Link.{Link}
use Rattle.writes.proofs.Writes.{Sized, Writes, sized}
use Rattle.writes.proofs.Needs.{child}
use Rattle.closed.proofs.Subjects.{Own, Slots, Pair}
use Rattle.closed.proofs.Fits.{Fits, fits, from_fits}

-- t is a configuration on the tree of s
pub record Kept (s t : State) : Type 0 where
  pub count : t.count ≡ s.count
  pub parents : t.parents ≡ s.parents
  pub sized : Sized t
  pub configuration : configuration_ok t ≡ true

-- a step at x, in a configuration on a good tree
pub record Here (s : State) (x : ℕ) : Type 0 where
  pub sized : Sized s
  pub configuration : configuration_ok s ≡ true
  pub inside : x < s.count
  pub most : s.count ≤ node_limit

-- a node of the tree other than the root
pub record Below (s : State) (j : ℕ) : Type 0 where
  pub inside : j < s.count
  pub below : j ≢ 0

-- what is asked of the rights, the fields, the link and the rows that a step at x writes
pub record Right (s : State) (x j r : ℕ) (m : Node) (l : Link) (es : ℕ → ℕ) (ws ps : ℕ → Bool) : Type 0 where
  pub place : (l ≡ link s j) ⊎ Below s j
  pub own : Own (is_leaf s x) (is_child s x) r m
  pub link : Slots l
  pub pairs : (k : ℕ) → k < node_limit → Pair r (is_child s x k) (es k) (ws k) (ps k)

-- where a node stands: below the root, or with no message on its link; beyond the last node it is blank
stands_below : (n y p r : ℕ) (m : Node) (l : Link) → y < n → y ≢ 0 → stands_ok n y p r m l ≡ true
unfolding stands_ok
stands_below n y p r m l h o =
    let z : 0 < y = omega arith in
    and_true _ _ (or_left _ _ (and_true _ _ (lt-ltb 0 y z) (lt-ltb y n h))) (or_left _ _ (lt-ltb y n h))

-- the fields of a node of the tree do not matter to it
stands_inside : (n y p r r' : ℕ) (m m' : Node) (l : Link) → y < n → stands_ok n y p r m l ≡ true → stands_ok n y p r' m' l ≡ true
unfolding stands_ok
stands_inside n y p r r' m m' l h g =
    let u = both ((ltb 0 y && ltb y n) || (eqb p 0 && slots_empty l)) _ g in and_true _ _ u.0 (or_left (ltb y n) _ (lt-ltb y n h))

module _ {s t : State} {x j r : ℕ} {m : Node} {l : Link} {es : ℕ → ℕ} {ws ps : ℕ → Bool}
    (h : Here s x) (w : Writes s t x j r m l es ws ps) (g : Right s x j r m l es ws ps) where
  -- the link of y is as it was, or y is the node whose link was written
  link_of_lem : (P : Link → Type 0) (y : ℕ) → P (link s y) → (y ≡ j → P l) → P (link t y)
  link_of_lem P y f a = go (ℕ_discrete y j)
    where
      go : Dec (y ≡ j) → P (link t y)
      go (yes e) = rw (e, w.links.at) (a e)
      go (no o) = rw (w.links.off y o) f

  link_fits : (y : ℕ) → Fits s y → Slots (link t y)
  link_fits y f = link_of_lem (λ (u : Link). Slots u) y f.link (λ _. g.link)

  -- with the fields that y had
  stands_fits : (y : ℕ) → Fits s y → stands_ok s.count y (parent s y) (rights s y) (node s y) (link t y) ≡ true
  stands_fits y f = link_of_lem (λ (u : Link). stands_ok s.count y (parent s y) (rights s y) (node s y) u ≡ true) y f.stands (λ e. go e g.place)
    where
      go : y ≡ j → (l ≡ link s j) ⊎ Below s j → stands_ok s.count y (parent s y) (rights s y) (node s y) l ≡ true
      go e (inl q) = rw (q, ← e) f.stands
      go e (inr b) = stands_below s.count y _ _ _ _ (rw e b.inside) (rw e b.below)

  here : Fits s x → Fits t x
  here f = record {
    own = rw (w.count, w.parents, w.rights.at, w.nodes.at) g.own;
    link = link_fits x f;
    stands = rw (w.count, w.parents, w.rights.at, w.nodes.at) (stands_inside s.count x _ _ _ _ _ _ h.inside (stands_fits x f));
    pairs = λ k b. rw (w.count, w.parents, w.rights.at, w.entries.at k b, w.to_probe.at k b, w.pending.at k b) (g.pairs k b);
  }

  there : (y : ℕ) → y ≢ x → Fits s y → Fits t y
  there y o f = record {
    own = rw (w.count, w.parents, w.rights.off y o, w.nodes.off y o) f.own;
    link = link_fits y f;
    stands = rw (w.count, w.parents, w.rights.off y o, w.nodes.off y o) (stands_fits y f);
    pairs = λ k b.
        rw (w.count, w.parents, w.rights.off y o, w.entries.off y k b o, w.to_probe.off y k b o, w.pending.off y k b o) (f.pairs k b);
  }

  pub kept_by : Kept s t
  kept_by = record {
    count = w.count;
    parents = w.parents;
    sized = sized h.sized w;
    configuration = from_fits t λ y b. go y b (ℕ_discrete y x);
  }
    where
      go : (y : ℕ) → y < node_limit → Dec (y ≡ x) → Fits t y
      go y b (yes e) = rw e (here (fits s h.configuration x (rw e at b)))
      go y b (no o) = there y o (fits s h.configuration y b)

-- at a step: x has its place in the arrays, and number 2 finds nothing there
module _ {s : State} {x : ℕ} (h : Here s x) where
  pub in_array : x < node_limit
  in_array = omega (arith, h.inside, h.most)

  pub own_fits : Fits s x
  own_fits = fits s h.configuration x in_array

  pub own_below : x ≢ 0 → Below s x
  own_below o = record { inside = h.inside; below = o }

  -- and so has a child of x
  module _ (k : ℕ) (c : is_child s x k ≡ true) where
    pub child_below : Below s k
    child_below = let u = child s x k c in record { inside = u.inside; below = u.below }

    pub child_array : k < node_limit
    child_array = omega (arith, child_below.inside, h.most)

    pub child_link : Slots (link s k)
    child_link = (fits s h.configuration k child_array).link

    pub not_leaf : is_leaf s x ≡ false
    unfolding leaf_in
    not_leaf = rw (any_at (is_child s x) node_limit k child_array c)
