-- Kind 13, send GrantAck, keeps the invariant.
use mathlib.Core.Path.{◌≡◌, refl, ◌∙◌}
use mathlib.Core.Bool.{Bool, true, false, not}
use Prim.Native.Nat.{ℕ, ◌<◌}
use borrow.Author.Tests.{eq-eqb}
use lib.Dec.{eqb}
use Rattle.words.specs.Vocab.{choose}
use Rattle.words.proofs.Facts.{clash}
use Rattle.rules.specs.Codes.{idle, empty}
use Rattle.rules.specs.Cells.{parent, node}
use Rattle.rules.specs.Tree.{is_leaf}
use Rattle.rules.specs.Messages.{is_grant}
use Rattle.rules.specs.Configuration.{configuration_ok}
use Rattle.rules.specs.Probe.{serves_probes}
use Rattle.rules.specs.Grant.{confirmed}
use Rattle.rules.specs.Release.{awaits}
use Rattle.rules.specs.declared.State.{State}
use Rattle.rules.specs.declared.Node.{Node}
use Rattle.rules.specs.declared.Event.{Event}
use Rattle.writes.proofs.Seen.{phase, requester, probing, slot_d, slot_e}
use Rattle.writes.proofs.Effects.{SendGrantAckWrites}
use Rattle.writes.proofs.Needs.{SendGrantAckNeeds}
use Rattle.writes.proofs.Views.{view}
use Rattle.coherence.proofs.Invariant.Clauses.{LinkOk, Inv}
use Rattle.coherence.proofs.Invariant.Frame.{own_step}
use Rattle.coherence.proofs.Invariant.Tokens.{token_at, token_second}
use Rattle.coherence.proofs.Shared.Settled.{Steady, unread}
use Rattle.coherence.proofs.Shared.Stays.{node_stays, own_moves, below_stays}

-- what a leaf's Idle and another's Give have in common: no token reads them, and the fields but the main transaction stay
record Ended (m m' : Node) : Type 0 where
  main : Steady idle m'.phase
  dirty : m'.dirty ≡ m.dirty
  value : m'.value ≡ m.value
  probe : m'.probe ≡ m.probe
  release : m'.release ≡ m.release

confirmed_ends : (leaf : Bool) (m : Node) → Ended m (confirmed leaf m)
unfolding confirmed choose
confirmed_ends true m = record { main = unread refl refl refl; dirty = refl; value = refl; probe = refl; release = refl }
confirmed_ends false m = record { main = unread refl refl refl; dirty = refl; value = refl; probe = refl; release = refl }

module _ {s : State} {v : ℕ} (i : Inv s v) (e : Event) {x : ℕ} (inside : x < s.count) (pos : 0 < x) (n : SendGrantAckNeeds s x) where
  ok : LinkOk v (view s x) x
  ok = i.links x pos inside

  abbrev after : Node
  after = confirmed (is_leaf s x) (node s x)

  ended : Ended (node s x) after
  ended = confirmed_ends (is_leaf s x) (node s x)

  -- Confirm was the token
  out : (awaits (phase s (parent s x)) (requester s (parent s x)) x ≡ true) × (is_grant (slot_d s x) ≡ false) × (not (eqb (slot_e s x) empty) ≡ false)
  out = token_second (token_at _ _ _ _ ok.grants) (eq-eqb _ _ n.main)

  -- in Confirm the probe is closed
  closed : probing s x ≡ true → {A : Type 0} → A
  unfolding serves_probes choose
  closed p = clash (rw n.main at ((i.nodes x inside).probe p)) refl

  -- nobody is awaited, before and after
  awaited : (k : ℕ) → awaits after.phase after.requester k ≡ awaits (phase s x) (requester s x) k
  unfolding awaits
  awaited k = ended.main.await after.requester k ∙ rw n.main

  pub send_grant_ack_keeps : (t : State) → SendGrantAckWrites s e x t → configuration_ok t ≡ true → Inv t v
  send_grant_ack_keeps t w valid =
      own_step i inside w valid
      (node_stays i inside ended.value (λ p. closed (rw ended.probe at p)) (λ h. closed (rw n.main at h)))
      (λ _. own_moves i inside pos ended.dirty ended.value (rw (out.0, out.1, ended.main.confirm)) (rw ended.probe ok.probes)
      (rw ended.main.leaving (rw n.main at ok.releases)))
      (λ k c. below_stays i c ended.value (awaited k) refl (rw ended.release))
