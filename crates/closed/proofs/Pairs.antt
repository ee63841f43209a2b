-- An entry and the two sets, when the rights, the entry or the sets change.
use mathlib.Core.Path.{◌≡◌, refl}
use mathlib.Core.Bool.{Bool, true, false, not, ◌&&◌}
use mathlib.Core.Logic.{◌≢◌}
use Prim.Native.Nat.{ℕ, ◌<◌, ◌≤◌}
use native.Mathlib.Decide.{ℕ_discrete}
use native.Mathlib.Omega.{arith}
use borrow.Author.Tests.{eqb-true, le-leb}
use lib.Dec.{eqb, leb}
use Rattle.words.specs.Vocab.{all}
use Rattle.words.proofs.Facts.{both, and_true}
use Rattle.rules.specs.Codes.{node_limit, levels, none, trunk}
use Rattle.rules.specs.Configuration.{member_ok, entry_ok}
use Rattle.closed.proofs.Tables.{Table3, by_three}
use Rattle.closed.proofs.Subjects.{Pair, entry_code}

-- "entries not None" are those of children, so they may be in to-probe
pub listed_pair : {r e : ℕ} {child listed waits : Bool} (listed' : Bool) → Pair r child e listed waits → (e ≡ none → listed' ≡ false)
    → Pair r child e listed' waits
unfolding member_ok
listed_pair {child = true} l p f = record { member = p.member; entry = p.entry }
listed_pair {e = e} {child = false} {listed} {waits} l p f =
    let u = both (eqb e none && not listed) (not waits) (both (leb e trunk) _ p.member).1 in
    let q = eqb-true e none (both (eqb e none) _ u.0).0 in
    record { member = rw (f q, q) u.1; entry = p.entry }

-- the rights change
pub turned_pair : {r r' e : ℕ} {child listed waits : Bool} → Pair r child e listed waits → entry_ok r' e ≡ true → Pair r' child e listed waits
turned_pair p h = record { member = p.member; entry = h }

-- rights rise
abbrev below : ℕ → ℕ → ℕ → Bool
below r r' e = leb r r' && entry_ok r e

rises : Table3 below (λ r r' e. entry_ok r' e) levels levels levels
unfolding all entry_ok
rises = refl

-- entries fall
abbrev above : ℕ → ℕ → ℕ → Bool
above r e e' = leb e' e && entry_ok r e

falls : Table3 above (λ r e e'. entry_ok r e') levels levels levels
unfolding all entry_ok
falls = refl

module _ {r e : ℕ} {child listed waits : Bool} (p : Pair r child e listed waits) (hr : r < levels) where
  pub risen_pair : (r' : ℕ) → r' < levels → r ≤ r' → Pair r' child e listed waits
  risen_pair r' h l =
      turned_pair p
      (by_three below (λ r r' e. entry_ok r' e) levels levels levels rises r r' e hr h (entry_code p) (and_true _ _ (le-leb r r' l) p.entry))

  pub fallen_entry : (e' : ℕ) → e' ≤ e → entry_ok r e' ≡ true
  fallen_entry e' l =
      let b = entry_code p in
      by_three above (λ r e e'. entry_ok r e') levels levels levels falls r e e' hr b (omega arith) (and_true _ _ (le-leb e' e l) p.entry)

-- the rows change at the child k, where the entry becomes e
pub child_pairs : {r : ℕ} {child : ℕ → Bool} {es : ℕ → ℕ} {ws ps : ℕ → Bool} → ((j : ℕ) → j < node_limit → Pair r (child j) (es j) (ws j) (ps j))
    → (k : ℕ) → child k ≡ true → {es' : ℕ → ℕ} {ws' ps' : ℕ → Bool} → ((j : ℕ) → j ≢ k → (es' j ≡ es j) × (ws' j ≡ ws j) × (ps' j ≡ ps j))
    → {e : ℕ} → es' k ≡ e → e < levels → entry_ok r e ≡ true → (j : ℕ) → j < node_limit → Pair r (child j) (es' j) (ws' j) (ps' j)
unfolding member_ok
child_pairs {r} {child} {es} {ws} {ps} old k c {es'} {ws'} {ps'} off {e} at b h j l = go (ℕ_discrete j k)
  where
    go : Dec (j ≡ k) → Pair r (child j) (es' j) (ws' j) (ps' j)
    go (yes q) = rw (q, at) record { member = rw c (and_true _ _ (le-leb e trunk (omega arith)) refl); entry = h }
    go (no o) = let u = off j o in rw (u.0, u.1, u.2) (old j l)
