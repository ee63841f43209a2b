-- What the invariant says at a node and at a link, in the form in which the kinds use it.
use mathlib.Core.Path.{◌≡◌, refl, subst}
use mathlib.Core.Bool.{true, false, ◌||◌, false≢true}
use mathlib.Core.Logic.{◌≢◌, ◌⊎◌, inl, inr}
use Prim.Native.Nat.{ℕ, ◌<◌, ◌≤◌}
use native.Mathlib.Decide.{ℕ_discrete}
use native.Mathlib.Omega.{arith}
use borrow.Author.Tests.{ne_eqb}
use lib.Dec.{eqb}
use Rattle.words.specs.Vocab.{choose}
use Rattle.words.proofs.Facts.{either, decided, or_right}
use Rattle.rules.specs.Codes.{node_limit, rights_n, tip, none, trunk, clear, await}
use Rattle.rules.specs.Cells.{parent, rights, entry, to_probe, pending}
use Rattle.rules.specs.Messages.{installs, is_grant, carries_down}
use Rattle.rules.specs.Probe.{serves_probes}
use Rattle.rules.specs.Release.{awaits}
use Rattle.rules.specs.declared.State.{State}
use Rattle.writes.proofs.Seen.{dirty, phase, probing, requester, slot_c, kept, slot_d}
use Rattle.writes.proofs.Needs.{Child}
use Rattle.writes.proofs.Accepted.{Tree, tree}
use Rattle.writes.proofs.Views.{view_at}
use Rattle.closed.proofs.Subjects.{rights_code, entry_code}
use Rattle.closed.proofs.Fits.{Fits, fits}
use Rattle.coherence.proofs.Invariant.Clauses.{LinkOk, Inv}
use Rattle.coherence.proofs.Invariant.Valid.{dirty_tip, up_code, kept_code, down_code, held}
use Rattle.coherence.proofs.Invariant.Tokens.{token_at, token_in, Codes, below, nothing, dataless}

-- a parent that is not in Await does not await the child
pub not_awaited : (ph q k : ℕ) → ph ≢ await → awaits ph q k ≡ false
unfolding awaits
not_awaited ph q k n = rw (ne_eqb ph await n)

module _ {s : State} {v : ℕ} (i : Inv s v) where
  pub good : Tree s.count s.parents
  good = tree s.count s.parents i.tree

  pub small : (y : ℕ) → y < s.count → y < node_limit
  small y h = let a : s.count ≤ node_limit = good.most in omega arith

  -- number 2 at a node
  pub fit_at : (y : ℕ) → y < s.count → Fits s y
  fit_at y h = fits s i.valid y (small y h)

  pub parent_inside : (k : ℕ) → 0 < k → k < s.count → parent s k < s.count
  parent_inside k a b = let c : parent s k < k = good.smaller k a b in omega arith

  -- a node other than the root is a child of its parent
  pub own_child : (k : ℕ) → 0 < k → k < s.count → Child s (parent s k) k
  own_child k a b = record { inside = b; below = λ e. omega arith; parent = refl }

  -- only Tip is dirty
  pub clean : (x : ℕ) → x < s.count → rights s x ≢ tip → dirty s x ≡ false
  clean x h n = go (decided (dirty s x))
    where
      go : (dirty s x ≡ true) ⊎ (dirty s x ≡ false) → dirty s x ≡ false
      go (inl d) = absurd (n (dirty_tip (fit_at x h).own d))
      go (inr d) = d

  -- a node at N has no entry
  pub bare : (x k : ℕ) → x < s.count → k < node_limit → rights s x ≡ rights_n → entry s x k ≡ none
  bare x k h l e = go (ℕ_discrete (entry s x k) none)
    where
      go : Dec (entry s x k ≡ none) → entry s x k ≡ none
      go (yes f) = f
      go (no n) = absurd (held ((fit_at x h).pairs k l) n e)

  -- CALM: a node with a member in a set does not await
  pub calm : (x k : ℕ) → x < s.count → k < node_limit → (to_probe s x k || pending s x k) ≡ true → phase s x ≢ await
  unfolding serves_probes choose
  calm x k h l m e = go (either _ _ ((i.nodes x h).sets k l m))
    where
      go : (eqb (phase s x) clear ≡ true) ⊎ (probing s x ≡ true) → ⊥
      go (inl f) = false≢true (rw e at f)
      go (inr f) = false≢true (rw e at ((i.nodes x h).probe f))

  -- the link of a child k of x
  module _ {x k : ℕ} (c : Child s x k) where
    pub positive : 0 < k
    positive = let n : k ≢ 0 = c.below in omega arith

    pub child_small : k < node_limit
    child_small = small k c.inside

    pub inside_above : x < s.count
    inside_above = subst (λ (p : ℕ). p < s.count) c.parent (parent_inside k positive c.inside)

    -- its clauses, with x in the parent's place
    pub child_ok_lem : LinkOk v (view_at s x k) k
    child_ok_lem = subst (λ (p : ℕ). LinkOk v (view_at s p k) k) c.parent (i.links k positive c.inside)

    pub codes_of : Codes (rights s k) (entry s x k) (slot_c s k) (kept s k) (slot_d s k)
    codes_of =
        let w = fit_at k c.inside in
        record {
          rights = rights_code w.own;
          entry = entry_code ((fit_at x inside_above).pairs k child_small);
          up = up_code w.link;
          kept = kept_code w.link;
          down = down_code w.link;
        }

    -- BELOW
    pub below_entry : rights s k ≤ entry s x k
    below_entry = below codes_of child_ok_lem.agree

    -- the entry None: the child has nothing, and no data is on its way to it
    pub none_below : entry s x k ≡ none → (rights s k ≡ rights_n) × (carries_down (slot_d s k) ≡ false)
    none_below = nothing codes_of child_ok_lem.agree

    -- the entry is not Trunk: no data is on its way up
    pub no_data : entry s x k ≢ trunk → installs (slot_c s k) ≡ false
    no_data = dataless codes_of child_ok_lem.agree

    -- CALM on the links: where a child of x is pending, no Grant is on its way to any
    pub no_grant : (j : ℕ) → j < node_limit → pending s x j ≡ true → is_grant (slot_d s k) ≡ false
    no_grant j l m =
        let n = calm x j inside_above l (or_right (to_probe s x j) _ m) in
        (token_in (token_at _ _ _ _ child_ok_lem.grants) (not_awaited (phase s x) (requester s x) k n)).0
