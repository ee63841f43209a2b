-- Kind 5, evict, keeps the invariant.
use mathlib.Core.Path.{◌≡◌, refl}
use mathlib.Core.Bool.{Bool, true}
use Prim.Native.Nat.{ℕ, ◌<◌}
use Rattle.words.proofs.Facts.{clash}
use Rattle.rules.specs.Codes.{to_evict}
use Rattle.rules.specs.With.{with_purpose}
use Rattle.rules.specs.Cells.{rights, entry, pending, node}
use Rattle.rules.specs.Configuration.{configuration_ok}
use Rattle.rules.specs.Local.{held}
use Rattle.rules.specs.declared.State.{State}
use Rattle.rules.specs.declared.Node.{Node}
use Rattle.rules.specs.declared.Event.{Event}
use Rattle.writes.proofs.Seen.{phase, requester}
use Rattle.writes.proofs.Writes.{settled_by}
use Rattle.writes.proofs.Effects.{EvictWrites}
use Rattle.writes.proofs.Needs.{EvictNeeds}
use Rattle.coherence.proofs.Invariant.Clauses.{Inv}
use Rattle.coherence.proofs.Invariant.Frame.{own_step}
use Rattle.coherence.proofs.Shared.Settled.{Steady, steady_new, clear_with_member}
use Rattle.coherence.proofs.Shared.Stays.{node_probes, own_stays, below_stays}

module _ {s : State} {v : ℕ} (i : Inv s v) (e : Event) {x : ℕ} (inside : x < s.count) (n : EvictNeeds s x) where
  abbrev listed : ℕ → Bool
  listed k = held (entry s x k)

  abbrev after : Node
  after = settled_by true listed (pending s x) (rights s x) (with_purpose (node s x) to_evict)

  steady : Steady (phase s x) after.phase
  steady = rw n.quiet.main (steady_new _ _ _)

  pub evict_keeps : (t : State) → EvictWrites s e x t → configuration_ok t ≡ true → Inv t v
  evict_keeps t w valid =
      own_step i inside w valid
      (node_probes i inside refl (λ p. clash p n.quiet.probe) (λ k l h. rw (clear_with_member listed (pending s x) k l h (phase s x) to_evict (rights s x))) n.sets.pending)
      (λ pos. own_stays i inside pos refl refl steady.confirm refl steady.leaving)
      (λ k c. below_stays i c refl (steady.await (requester s x) k) refl refl)
