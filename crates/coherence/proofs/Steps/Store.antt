-- Kind 2, store, keeps the invariant with the value that it stores.
use mathlib.Core.Path.{◌≡◌, refl, sym, subst}
use mathlib.Core.Bool.{true, false≢true}
use mathlib.Core.Logic.{◌≢◌, ◌⊎◌, inl, inr}
use Prim.Native.Nat.{ℕ, ◌<◌}
use native.Mathlib.Decide.{ℕ_discrete}
use native.Mathlib.Omega.{arith}
use Rattle.rules.specs.Codes.{node_limit, rights_n, tip, none, trunk}
use Rattle.rules.specs.Cells.{parent, rights, entry, to_probe, pending, node, link}
use Rattle.rules.specs.Scenes.{stored}
use Rattle.rules.specs.Configuration.{configuration_ok}
use Rattle.rules.specs.declared.State.{State}
use Rattle.rules.specs.declared.Event.{Event}
use Rattle.writes.proofs.Effects.{StoreWrites}
use Rattle.writes.proofs.Needs.{Child, StoreNeeds}
use Rattle.writes.proofs.Views.{view, own_view, child_view}
use Rattle.coherence.proofs.Invariant.Clauses.{LinkOk, NodeOk, Inv}
use Rattle.coherence.proofs.Invariant.Frame.{store_step}
use Rattle.coherence.proofs.Invariant.Here.{small, parent_inside, bare, child_small}
use Rattle.coherence.proofs.Shared.Stays.{below_values}
use Rattle.coherence.proofs.Meaning.Named.{tt_is}
use Rattle.coherence.proofs.Meaning.SoleTip.{Above, sole_tip}

module _ {s : State} {v : ℕ} (i : Inv s v) (e : Event) {x : ℕ} (inside : x < s.count) (n : StoreNeeds s x) where
  abbrev new : ℕ
  new = e.value

  tip_alone : (rights s x ≡ tip) × ((k : ℕ) → k < node_limit → entry s x k ≡ none)
  tip_alone = tt_is i x inside n.name

  own : 0 < x → LinkOk new (own_view s x (rights s x) (stored new (node s x)) (link s x)) x
  own pos =
      let w = i.links x pos inside in
      record {
        grants = w.grants;
        probes = w.probes;
        releases = w.releases;
        agree = w.agree;
        exact = w.exact;
        copy = λ _ d. absurd (false≢true (sym d));
        granted = w.granted;
        last = λ _ n. absurd (n tip_alone.0);
      }

  -- the children have nothing, and no Grant is on its way to them
  below : (k : ℕ) → Child s x k → LinkOk new (child_view s k (stored new (node s x)) (entry s x k) (to_probe s x k) (pending s x k) (link s k)) k
  below k c = below_values i c (λ h. absurd (h (tip_alone.1 k (child_small i c)))) refl refl refl

  others : (y : ℕ) → y < s.count → y ≢ x → (rights s y ≡ rights_n) ⊎ Above s y
  others = sole_tip i x inside tip_alone.0 tip_alone.1

  -- elsewhere no trunk ends
  far_link : (k : ℕ) → 0 < k → k < s.count → k ≢ x → parent s k ≢ x → LinkOk v (view s k) k → LinkOk new (view s k) k
  far_link k a b _ n w =
      record {
        grants = w.grants;
        probes = w.probes;
        releases = w.releases;
        agree = w.agree;
        exact = w.exact;
        copy = w.copy;
        granted = w.granted;
        last = λ e r. absurd (ends e r (others p p_inside n));
      }
    where
      p : ℕ
      p = parent s k

      p_inside : p < s.count
      p_inside = parent_inside i k a b

      ends : entry s p k ≡ trunk → rights s k ≢ tip → (rights s p ≡ rights_n) ⊎ Above s p → ⊥
      ends e r (inl z) = let f : entry s p k ≡ none = bare i p k p_inside (small i k b) z in omega arith
      ends e r (inr u) = at (ℕ_discrete u.towards k)
        where
          at : Dec (u.towards ≡ k) → ⊥
          at (yes f) = r (subst (λ (c : ℕ). rights s c ≡ tip) f u.rights)
          at (no f) =
              let z : entry s p k ≡ none = (i.nodes p p_inside).row u.towards k (child_small i u.child) (small i k b) f u.entry in
              omega arith

  far_node : (y : ℕ) → y < s.count → y ≢ x → NodeOk v y (rights s y) (node s y) (entry s y) (to_probe s y) (pending s y)
      → NodeOk new y (rights s y) (node s y) (entry s y) (to_probe s y) (pending s y)
  far_node y h n q =
      record { root = q.root; row = q.row; probe = q.probe; sets = q.sets; apart = q.apart; last = λ t o. absurd (ends t o (others y h n)) }
    where
      ends : rights s y ≡ tip → ((k : ℕ) → k < node_limit → entry s y k ≢ trunk) → (rights s y ≡ rights_n) ⊎ Above s y → ⊥
      ends t o (inl z) = omega arith
      ends t o (inr u) = o u.towards (child_small i u.child) u.entry

  here : NodeOk new x (rights s x) (stored new (node s x)) (entry s x) (to_probe s x) (pending s x)
  here = let q = i.nodes x inside in record { root = q.root; row = q.row; probe = q.probe; sets = q.sets; apart = q.apart; last = λ _ _. refl }

  pub store_keeps : (t : State) → StoreWrites s e x t → configuration_ok t ≡ true → Inv t e.value
  store_keeps t w valid = store_step i inside w valid new (record { links = far_link; nodes = far_node }) here own below
