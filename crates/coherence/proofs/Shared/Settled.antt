-- Settle: it neither enters nor leaves Confirm, Await and Leaving, a member keeps its node in Clear or as it was, and an open probe is
-- still served.
use mathlib.Core.Path.{◌≡◌, refl}
use mathlib.Core.Bool.{Bool, true, false, not, ◌&&◌, ◌||◌, and-false, false≢true}
use mathlib.Core.Logic.{◌≢◌, ◌⊎◌, inl, inr}
use Prim.Native.Nat.{ℕ, ◌<◌}
use borrow.Author.Tests.{eqb-true, ne_eqb}
use lib.Dec.{eqb}
use Rattle.words.specs.Vocab.{any, choose}
use Rattle.words.proofs.Facts.{both, either, any_at, by_test}
use Rattle.rules.specs.Codes.{node_limit, rights_n, tip, idle, clear, confirm, await, leaving}
use Rattle.rules.specs.Settle.{next_phase, phase_after}
use Rattle.rules.specs.Probe.{serves_probes}
use Rattle.rules.specs.Release.{awaits}
use Rattle.writes.proofs.Cases.{by_purpose}
use Rattle.writes.proofs.Writes.{no_members}

-- from ph to ph' none of the phases that a token reads is entered or left
pub record Steady (ph ph' : ℕ) : Type 0 where
  pub confirm : eqb ph' confirm ≡ eqb ph confirm
  pub await : (q k : ℕ) → awaits ph' q k ≡ awaits ph q k
  pub leaving : eqb ph' leaving ≡ eqb ph leaving

-- from Idle to another phase that no token reads
pub unread : {p : ℕ} → eqb p confirm ≡ false → eqb p await ≡ false → eqb p leaving ≡ false → Steady idle p
unfolding awaits
unread c a l = record { confirm = c; await = λ q k. rw a; leaving = l }

next_unread : (pu r : ℕ) → Steady idle (next_phase pu r)
unfolding next_phase
next_unread pu r =
    by_purpose (Steady idle) _ pu (λ _. unread refl refl refl)
    (λ _. by_test (Steady idle) (eqb r rights_n) _ _ (λ _. unread refl refl refl) (λ _. unread refl refl refl))
    (λ _. by_test (Steady idle) (eqb r tip) _ _ (λ _. unread refl refl refl) (λ _. unread refl refl refl))
    (λ _. unread refl refl refl) (unread refl refl refl)

-- settle with a new purpose from Idle, and with none from any phase
pub steady_new : (b : Bool) (pu r : ℕ) → Steady idle (phase_after b true idle pu r)
unfolding phase_after choose
steady_new true pu r = next_unread pu r
steady_new false pu r = unread refl refl refl

pub steady_old : (b : Bool) (ph pu r : ℕ) → Steady ph (phase_after b false ph pu r)
unfolding phase_after choose awaits
steady_old b ph pu r = by_test (Steady ph) (b && eqb ph clear) _ _ cleared (λ _. record { confirm = refl; await = λ q k. refl; leaving = refl })
  where
    cleared : (b && eqb ph clear) ≡ true → Steady ph (next_phase pu r)
    cleared e =
        let f : ph ≡ clear = eqb-true _ _ (both b (eqb ph clear) e).1 in
        let n = next_unread pu r in
        rw f (record { confirm = n.confirm; await = n.await; leaving = n.leaving })

-- with no new purpose a node outside Clear stays where it is
unmoved : (b : Bool) (ph pu r : ℕ) → ph ≢ clear → phase_after b false ph pu r ≡ ph
unfolding phase_after choose
unmoved true ph pu r n = rw (ne_eqb ph clear n)
unmoved false ph pu r n = refl

-- so an open probe is still served
pub still_served : (b : Bool) (ph pu r : ℕ) → serves_probes ph ≡ true → serves_probes (phase_after b false ph pu r) ≡ true
unfolding serves_probes choose
still_served b ph pu r h = rw (unmoved b ph pu r (λ e. false≢true (rw e at h))) h

-- where a member is left, a new purpose is in Clear, and without one the phase stays
module _ (ws ps : ℕ → Bool) (k : ℕ) (b : k < node_limit) (h : (ws k || ps k) ≡ true) where
  member_seen : no_members ws ps ≡ false
  member_seen = go (either (ws k) (ps k) h)
    where
      go : (ws k ≡ true) ⊎ (ps k ≡ true) → no_members ws ps ≡ false
      go (inl e) = rw (any_at ws node_limit k b e)
      go (inr e) = rw (any_at ps node_limit k b e) (and-false (not (any ws node_limit)))

  pub clear_with_member : (ph pu r : ℕ) → phase_after (no_members ws ps) true ph pu r ≡ clear
  unfolding phase_after choose
  clear_with_member ph pu r = rw member_seen

  pub same_with_member : (ph pu r : ℕ) → phase_after (no_members ws ps) false ph pu r ≡ ph
  unfolding phase_after choose
  same_with_member ph pu r = rw member_seen
