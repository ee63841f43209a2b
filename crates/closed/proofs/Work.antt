-- The main transaction: Idle, a purpose begun, a phase that moves on, and settle.
use mathlib.Core.Path.{◌≡◌, refl, sym, ◌∙◌}
use mathlib.Core.Bool.{Bool, true, false, not, ◌&&◌, or-true}
use Prim.Native.Nat.{ℕ, ◌<◌}
use native.Mathlib.Omega.{arith}
use borrow.Author.Tests.{eqb-true}
use lib.Dec.{eqb}
use Rattle.words.specs.Vocab.{all, choose}
use Rattle.words.proofs.Facts.{both, clash, by_test}
use Rattle.rules.specs.Codes.{purposes, rights_n, tip, idle, clear, no_purpose, no_child}
use Rattle.rules.specs.With.{with_phase}
use Rattle.rules.specs.Configuration.{serving, evicting, work_ok, at_leaf, leaf_ok, has_requester, requester_ok, child_ok}
use Rattle.rules.specs.Settle.{next_phase, phase_after}
use Rattle.rules.specs.declared.Node.{Node}
use Rattle.writes.proofs.Cases.{by_purpose}
use Rattle.closed.proofs.Tables.{Table, by_code}
use Rattle.closed.proofs.Subjects.{Main, Own, with_main}

purpose_code : (ph pu : ℕ) → work_ok ph pu ≡ true → pu < purposes
unfolding work_ok
purpose_code ph pu =
    by_purpose (λ (b : Bool). b ≡ true → pu < purposes) _ pu
    (λ e _. omega arith) (λ e _. omega arith) (λ e _. omega arith) (λ e _. omega arith) (λ h. clash h refl)

-- "Idle with a purpose"
none_idle : Table (work_ok idle) (λ pu. eqb pu no_purpose) purposes
unfolding all work_ok serving evicting choose
none_idle = refl

idle_none : (pu : ℕ) → work_ok idle pu ≡ true → pu ≡ no_purpose
idle_none pu h = eqb-true _ _ (by_code (work_ok idle) (λ pu. eqb pu no_purpose) purposes none_idle pu (purpose_code idle pu h) h)

-- settle leaves a phase fit for its purpose
next_works : (pu r : ℕ) → work_ok clear pu ≡ true → work_ok (next_phase pu r) pu ≡ true
unfolding next_phase work_ok serving evicting choose
next_works pu r h =
    by_purpose Works _ pu (λ _. h) (λ e. by_test Works (eqb r rights_n) _ _ (λ _. rw e) (λ _. rw e))
    (λ e. by_test Works (eqb r tip) _ _ (λ _. rw e) (λ _. rw e)) (λ e. rw e) h
  where
    Works : ℕ → Type 0
    Works ph = work_ok ph pu ≡ true

module _ {leaf : Bool} {child : ℕ → Bool} where
  -- "Idle clears purpose and requester."
  pub idle_main : Main leaf child idle no_purpose no_child
  unfolding work_ok leaf_ok at_leaf requester_ok has_requester child_ok choose
  idle_main = record { work = refl; place = or-true (not leaf); asked = refl; named = refl }

  module _ {ph pu q : ℕ} (m : Main leaf child ph pu q) where
    -- from Idle: a purpose that names no requester
    pub begun : (ph' pu' : ℕ) → work_ok ph' pu' ≡ true → leaf_ok leaf ph' ≡ true → (has_requester pu' && not leaf) ≡ false → ph ≡ idle
        → Main leaf child ph' pu' q
    unfolding requester_ok has_requester choose
    begun ph' pu' w l n e = record { work = w; place = l; asked = rw n unasked; named = m.named }
      where
        unasked : requester_ok leaf no_purpose q ≡ true
        unasked = rw (idle_none pu (rw e at m.work)) at m.asked

    -- another phase for the same purpose
    to_phase : (to : ℕ) → work_ok to pu ≡ true → leaf_ok leaf to ≡ true → Main leaf child to pu q
    to_phase to w l = record { work = w; place = l; asked = m.asked; named = m.named }

    -- on to a phase with the same purposes and the same places
    pub moved : (from to : ℕ) → Table (work_ok from) (work_ok to) purposes → leaf_ok leaf from ≡ leaf_ok leaf to → ph ≡ from → Main leaf child to pu q
    moved from to t l e =
        to_phase to (by_code (work_ok from) (work_ok to) purposes t pu (purpose_code ph pu m.work) (rw e at m.work)) (sym l ∙ (rw e at m.place))

    -- settle
    pub settled_main : (bothEmpty : Bool) (r : ℕ) → leaf_ok leaf (next_phase pu r) ≡ true → Main leaf child (phase_after bothEmpty false ph pu r) pu q
    unfolding phase_after choose
    settled_main b r l =
        by_test (λ (p : ℕ). Main leaf child p pu q) (b && eqb ph clear) (next_phase pu r) ph
        (λ t. to_phase _ (next_works pu r (rw (eqb-true ph clear (both b _ t).1) at m.work)) l) (λ _. m)

  -- settle with a new purpose, which counts as in Clear
  pub settled_new : {pu q : ℕ} → Main leaf child clear pu q → (bothEmpty : Bool) (ph r : ℕ) → leaf_ok leaf (next_phase pu r) ≡ true
      → Main leaf child (phase_after bothEmpty true ph pu r) pu q
  unfolding phase_after choose
  settled_new m b ph r l = settled_main m b r l

-- settle above a leaf, in the fields of a node
pub settled_own : {leaf : Bool} {child : ℕ → Bool} {r : ℕ} {m : Node} → Own leaf child r m → leaf ≡ false → (bothEmpty : Bool) (q : ℕ)
    → Own leaf child r (with_phase m (phase_after bothEmpty false m.phase m.purpose q))
unfolding leaf_ok
settled_own o l b q = with_main o (settled_main o.main b q (rw l))
