-- The one argument along the tree. SOLE-TIP: where x is Tip and all its entries are None, every other node is at N, or it is above x
-- and its Trunk entry is the one towards x.
use mathlib.Core.Path.{◌≡◌, refl, sym, subst}
use mathlib.Core.Logic.{◌≢◌, ◌⊎◌, inl, inr}
use Prim.Native.Nat.{ℕ, zero, suc, ◌<◌, ◌≤◌}
use native.Mathlib.Nat.{not-suc-le-zero}
use native.Mathlib.Decide.{ℕ_discrete}
use native.Mathlib.Omega.{arith}
use Rattle.rules.specs.Codes.{node_limit, levels, rights_n, tip, none, trunk}
use Rattle.rules.specs.Cells.{parent, rights, entry}
use Rattle.rules.specs.declared.State.{State}
use Rattle.writes.proofs.Needs.{Child}
use Rattle.coherence.proofs.Invariant.Clauses.{Inv}
use Rattle.coherence.proofs.Invariant.Valid.{trunk_tip}
use Rattle.coherence.proofs.Invariant.Here.{good, small, fit_at, own_child, bare, child_small, inside_above, codes_of, below_entry, none_below}

-- the way up from x
data Path (s : State) (x : ℕ) : ℕ → Type 0 where
  here : Path s x x
  up : {y : ℕ} (z : ℕ) → Child s y z → Path s x z → Path s x y

-- the Trunk entry of y is that of a child at Tip
pub record Above (s : State) (y : ℕ) : Type 0 where
  pub towards : ℕ
  pub child : Child s y towards
  pub entry : entry s y towards ≡ trunk
  pub rights : rights s towards ≡ tip

module _ {s : State} {v : ℕ} (i : Inv s v) where
  -- a child at Tip has a Trunk entry
  tip_trunk : {y z : ℕ} → Child s y z → rights s z ≡ tip → entry s y z ≡ trunk
  tip_trunk {y} {z} c t =
      let b : rights s z ≤ entry s y z = below_entry i c in
      let l : entry s y z < levels = (codes_of i c).entry in
      omega arith

  module _ (x : ℕ) (inside : x < s.count) (top : rights s x ≡ tip) (nothing : (k : ℕ) → k < node_limit → entry s x k ≡ none) where
    -- all on the way up are Tip
    path_tip : {y : ℕ} → Path s x y → rights s y ≡ tip
    path_tip here = top
    path_tip {y} (up z c p) = trunk_tip ((fit_at i y (inside_above i c)).pairs z (child_small i c)) (tip_trunk c (path_tip p))

    -- the way ends at the root
    to_root : (n z : ℕ) → z < n → z < s.count → Path s x z → Path s x 0
    to_root zero z l h p = absurd (not-suc-le-zero l)
    to_root (suc n) z l h p = go (ℕ_discrete z 0) (λ a b q. to_root n (parent s z) a b q)
      where
        go : Dec (z ≡ 0) → (parent s z < n → parent s z < s.count → Path s x (parent s z) → Path s x 0) → Path s x 0
        go (yes e) ih = subst (λ (y : ℕ). Path s x y) e p
        go (no e) ih =
            let a : 0 < z = omega arith in
            let b : parent s z < z = (good i).smaller z a h in
            ih (omega arith) (omega arith) (up z (own_child i z a h) p)

    -- every node is on the way, or at N
    on_or_n : (n y : ℕ) → y < n → y < s.count → Path s x y ⊎ (rights s y ≡ rights_n)
    on_or_n zero y l h = absurd (not-suc-le-zero l)
    on_or_n (suc n) y l h = go (ℕ_discrete y 0) (λ a b. on_or_n n (parent s y) a b)
      where
        off : (p : ℕ) → Child s p y → entry s p y ≡ none → Path s x y ⊎ (rights s y ≡ rights_n)
        off p c e = inr (none_below i c e).0

        beside : (p z : ℕ) → Child s p y → Child s p z → Path s x z → Dec (z ≡ y) → Path s x y ⊎ (rights s y ≡ rights_n)
        beside p z c d q (yes e) = inl (subst (λ (k : ℕ). Path s x k) e q)
        beside p z c d q (no e) =
            off p c ((i.nodes p (inside_above i c)).row z y (child_small i d) (small i y h) e (tip_trunk d (path_tip q)))

        below : (p : ℕ) → Child s p y → Path s x p ⊎ (rights s p ≡ rights_n) → Path s x y ⊎ (rights s y ≡ rights_n)
        below p c (inr e) = off p c (bare i p y (inside_above i c) (small i y h) e)
        below p c (inl here) = off p c (nothing y (small i y h))
        below p c (inl (up z d q)) = beside p z c d q (ℕ_discrete z y)

        go : Dec (y ≡ 0) → (parent s y < n → parent s y < s.count → Path s x (parent s y) ⊎ (rights s (parent s y) ≡ rights_n)) → Path s x y ⊎ (rights s y ≡ rights_n)
        go (yes e) ih = inl (subst (λ (k : ℕ). Path s x k) (sym e) (to_root (suc x) x (omega arith) inside here))
        go (no e) ih =
            let a : 0 < y = omega arith in
            let b : parent s y < y = (good i).smaller y a h in
            below (parent s y) (own_child i y a h) (ih (omega arith) (omega arith))

    pub sole_tip : (y : ℕ) → y < s.count → y ≢ x → (rights s y ≡ rights_n) ⊎ Above s y
    sole_tip y h n = go (on_or_n (suc y) y (omega arith) h)
      where
        above : (y : ℕ) → y ≢ x → Path s x y → Above s y
        above y n here = absurd (n refl)
        above y n (up z c p) = record { towards = z; child = c; entry = tip_trunk c (path_tip p); rights = path_tip p }

        go : Path s x y ⊎ (rights s y ≡ rights_n) → (rights s y ≡ rights_n) ⊎ Above s y
        go (inl p) = inr (above y n p)
        go (inr e) = inl e
