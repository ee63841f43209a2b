-- Kind 6, send Acquire, keeps the invariant.
use mathlib.Core.Path.{◌≡◌, refl}
use mathlib.Core.Bool.{true}
use Prim.Native.Nat.{ℕ, ◌<◌}
use Rattle.words.specs.Vocab.{choose}
use Rattle.rules.specs.Configuration.{configuration_ok}
use Rattle.rules.specs.Probe.{serves_probes}
use Rattle.rules.specs.Release.{awaits}
use Rattle.rules.specs.declared.State.{State}
use Rattle.rules.specs.declared.Event.{Event}
use Rattle.writes.proofs.Effects.{SendAcquireWrites}
use Rattle.writes.proofs.Needs.{SendAcquireNeeds}
use Rattle.coherence.proofs.Invariant.Clauses.{Inv}
use Rattle.coherence.proofs.Invariant.Frame.{own_step}
use Rattle.coherence.proofs.Shared.Stays.{node_stays, own_stays, below_stays}

pub send_acquire_keeps : {s : State} {v : ℕ} → Inv s v → (e : Event) {x : ℕ} → x < s.count → SendAcquireNeeds s x
    → (t : State) → SendAcquireWrites s e x t → configuration_ok t ≡ true → Inv t v
unfolding awaits serves_probes choose
send_acquire_keeps i e inside n t w valid =
    own_step i inside w valid (node_stays i inside refl (λ _. refl) (λ h. rw n.main at h))
    (λ pos. own_stays i inside pos refl refl (rw n.main) refl (rw n.main))
    (λ k c. below_stays i c refl (rw n.main) refl refl)
