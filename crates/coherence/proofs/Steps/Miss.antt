-- Kinds 3 and 4, load miss and store miss, keep the invariant.
use mathlib.Core.Path.{◌≡◌, refl}
use mathlib.Core.Bool.{true}
use Prim.Native.Nat.{ℕ, ◌<◌}
use Rattle.words.proofs.Facts.{clash}
use Rattle.rules.specs.Codes.{ask}
use Rattle.rules.specs.With.{with_phase, with_purpose}
use Rattle.rules.specs.Cells.{rights, entry, to_probe, pending, node, link}
use Rattle.rules.specs.Configuration.{configuration_ok}
use Rattle.rules.specs.Release.{awaits}
use Rattle.rules.specs.declared.State.{State}
use Rattle.writes.proofs.Writes.{Writes}
use Rattle.writes.proofs.Needs.{Idle}
use Rattle.coherence.proofs.Invariant.Clauses.{Inv}
use Rattle.coherence.proofs.Invariant.Frame.{own_step}
use Rattle.coherence.proofs.Shared.Stays.{node_stays, own_stays, below_stays}

-- with the purpose pu
pub miss_keeps : {s : State} {v : ℕ} → Inv s v → {x : ℕ} → x < s.count → Idle (node s x) → (t : State) (pu : ℕ)
    → Writes s t x x (rights s x) (with_purpose (with_phase (node s x) ask) pu) (link s x) (entry s x) (to_probe s x) (pending s x)
    → configuration_ok t ≡ true → Inv t v
unfolding awaits
miss_keeps i inside quiet t pu w valid =
    own_step i inside w valid (node_stays i inside refl (λ p. clash p quiet.probe) (λ h. rw quiet.main at h))
    (λ pos. own_stays i inside pos refl refl (rw quiet.main) refl (rw quiet.main))
    (λ k c. below_stays i c refl (rw quiet.main) refl refl)
