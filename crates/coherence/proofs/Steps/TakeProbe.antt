-- Kind 9, take Probe, keeps the invariant.
use mathlib.Core.Path.{◌≡◌, refl}
use mathlib.Core.Bool.{true, false}
use Prim.Native.Nat.{ℕ, ◌<◌}
use lib.Dec.{eqb}
use Rattle.words.proofs.Facts.{differ, or_right}
use Rattle.rules.specs.Codes.{clear}
use Rattle.rules.specs.Cells.{parent, pending}
use Rattle.rules.specs.Messages.{is_probe_ack}
use Rattle.rules.specs.Configuration.{configuration_ok}
use Rattle.rules.specs.declared.State.{State}
use Rattle.rules.specs.declared.Event.{Event}
use Rattle.writes.proofs.Seen.{phase, probing, slot_c}
use Rattle.writes.proofs.Effects.{TakeProbeWrites}
use Rattle.writes.proofs.Needs.{TakeProbeNeeds}
use Rattle.writes.proofs.Views.{view}
use Rattle.coherence.proofs.Invariant.Clauses.{LinkOk, Inv}
use Rattle.coherence.proofs.Invariant.Frame.{own_step}
use Rattle.coherence.proofs.Invariant.Tokens.{token_at, token_first}
use Rattle.coherence.proofs.Shared.Stays.{node_probes, own_moves, below_stays}

module _ {s : State} {v : ℕ} (i : Inv s v) (e : Event) {x : ℕ} (inside : x < s.count) (pos : 0 < x) (n : TakeProbeNeeds s x) where
  ok : LinkOk v (view s x) x
  ok = i.links x pos inside

  -- the Probe was the token
  out : (pending s (parent s x) x ≡ true) × (probing s x ≡ false) × (is_probe_ack (slot_c s x) ≡ false)
  out = token_first (token_at _ _ _ _ ok.probes) (differ _ _ n.slot)

  pub take_probe_keeps : (t : State) → TakeProbeWrites s e x t → configuration_ok t ≡ true → Inv t v
  take_probe_keeps t w valid =
      own_step i inside w valid
      (node_probes i inside refl (λ _. n.main) (λ k l _. or_right (eqb (phase s x) clear) true refl) n.sets.pending)
      (λ _. own_moves i inside pos refl refl ok.grants (rw (out.0, out.2)) ok.releases)
      (λ k c. below_stays i c refl refl refl refl)
