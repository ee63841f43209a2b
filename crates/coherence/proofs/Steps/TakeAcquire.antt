-- Kind 7, take Acquire, keeps the invariant.
use mathlib.Core.Path.{◌≡◌, refl, ◌∙◌}
use mathlib.Core.Bool.{Bool, true}
use Prim.Native.Nat.{ℕ, ◌<◌}
use Rattle.words.proofs.Facts.{clash}
use Rattle.rules.specs.With.{with_purpose, with_requester}
use Rattle.rules.specs.Cells.{rights, entry, pending, node}
use Rattle.rules.specs.Configuration.{configuration_ok}
use Rattle.rules.specs.Names.{named}
use Rattle.rules.specs.Acquire.{purpose_for, probed_for}
use Rattle.rules.specs.Release.{awaits}
use Rattle.rules.specs.declared.State.{State}
use Rattle.rules.specs.declared.Node.{Node}
use Rattle.rules.specs.declared.Event.{Event}
use Rattle.writes.proofs.Seen.{phase, requester, slot_a}
use Rattle.writes.proofs.Writes.{settled_by}
use Rattle.writes.proofs.Effects.{TakeAcquireWrites}
use Rattle.writes.proofs.Needs.{Child, TakeAcquireNeeds}
use Rattle.coherence.proofs.Invariant.Clauses.{Inv}
use Rattle.coherence.proofs.Invariant.Frame.{child_step}
use Rattle.coherence.proofs.Shared.Settled.{Steady, steady_new, clear_with_member}
use Rattle.coherence.proofs.Shared.Stays.{node_probes, own_stays, below_stays}

module _ {s : State} {v : ℕ} (i : Inv s v) (e : Event) {x k : ℕ} (inside : x < s.count) (child : Child s x k) (n : TakeAcquireNeeds s x k) where
  abbrev listed : ℕ → Bool
  listed j = probed_for (purpose_for (slot_a s k)) (named s x) e.other (entry s x j) j

  abbrev after : Node
  after = settled_by true listed (pending s x) (rights s x) (with_requester (with_purpose (node s x) (purpose_for (slot_a s k))) e.other)

  steady : Steady (phase s x) after.phase
  steady = rw n.main (steady_new _ _ _)

  -- nobody is awaited, before and after
  awaited : (j : ℕ) → awaits after.phase e.other j ≡ awaits (phase s x) (requester s x) j
  unfolding awaits
  awaited j = steady.await e.other j ∙ rw n.main

  pub take_acquire_keeps : (t : State) → TakeAcquireWrites s e x k t → configuration_ok t ≡ true → Inv t v
  take_acquire_keeps t w valid =
      child_step i inside child w valid
      (node_probes i inside refl (λ p. clash p n.probe) (λ j l h. rw (clear_with_member listed (pending s x) j l h (phase s x) (purpose_for (slot_a s k)) (rights s x))) n.sets.pending)
      (λ pos. own_stays i inside pos refl refl steady.confirm refl steady.leaving)
      (below_stays i child refl (awaited k) refl refl)
      (λ j c _. below_stays i c refl (awaited j) refl refl)
