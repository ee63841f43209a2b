-- "rights fall to the cap if above it"
use mathlib.Core.Path.{◌≡◌}
use Prim.Native.Nat.{ℕ, ◌<◌, ◌≤◌}
use native.Mathlib.Omega.{arith}
use borrow.Author.Tests.{leb-true, leb-false}
use lib.Dec.{leb}
use Rattle.words.specs.Vocab.{choose}
use Rattle.words.proofs.Facts.{by_test}
use Rattle.rules.specs.Codes.{keeps, rights_n, rights_b, cap_b}
use Rattle.rules.specs.Probe.{cap_rights, fallen}
use Rattle.writes.proofs.Cases.{by_cap}

-- not above what they were
pub fallen_under : (c r : ℕ) → fallen c r ≤ r
unfolding fallen
fallen_under c r =
    by_test (λ (z : ℕ). z ≤ r) (leb r (cap_rights c)) r (cap_rights c) (λ _. omega arith) (λ e. let l : cap_rights c < r = leb-false _ _ e in omega arith)

-- to B at most
cap_code : (c : ℕ) → cap_rights c < keeps
unfolding cap_rights
cap_code c = by_cap (λ (z : ℕ). z < keeps) _ c (λ _. omega arith) (λ _. omega arith) (λ _. omega arith) (omega arith)

pub fallen_code : (c r : ℕ) → fallen c r < keeps
unfolding fallen
fallen_code c r =
    by_test (λ (z : ℕ). z < keeps) (leb r (cap_rights c)) r (cap_rights c)
    (λ e. let l : r ≤ cap_rights c = leb-true _ _ e in let m : cap_rights c < keeps = cap_code c in omega arith) (λ _. cap_code c)

-- cap B leaves N to a node that had nothing
pub fallen_none : (c r : ℕ) → c ≡ cap_b → fallen c r ≡ rights_n → r ≡ rights_n
unfolding fallen choose cap_rights
fallen_none c r e h =
    by_test (λ (z : ℕ). z ≡ rights_n → r ≡ rights_n) (leb r rights_b) r rights_b (λ _ f. f) (λ _ f. absurd (omega arith)) (rw e at h)
