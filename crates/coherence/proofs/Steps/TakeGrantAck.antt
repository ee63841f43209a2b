-- Kind 15, take GrantAck, keeps the invariant.
use mathlib.Core.Path.{◌≡◌, refl, sym}
use mathlib.Core.Bool.{true, false}
use mathlib.Core.Logic.{◌≢◌}
use Prim.Native.Nat.{ℕ, ◌<◌}
use borrow.Author.Tests.{ne_eqb}
use Rattle.words.specs.Vocab.{choose}
use Rattle.words.proofs.Facts.{differ}
use Rattle.rules.specs.Codes.{idle, no_child}
use Rattle.rules.specs.Cells.{node}
use Rattle.rules.specs.Messages.{is_grant}
use Rattle.rules.specs.Configuration.{configuration_ok}
use Rattle.rules.specs.Probe.{serves_probes}
use Rattle.rules.specs.Release.{awaits}
use Rattle.rules.specs.declared.State.{State}
use Rattle.rules.specs.declared.Event.{Event}
use Rattle.writes.proofs.Seen.{phase, requester, slot_d}
use Rattle.writes.proofs.Effects.{TakeGrantAckWrites}
use Rattle.writes.proofs.Needs.{TakeGrantAckNeeds}
use Rattle.writes.proofs.Views.{view_at}
use Rattle.coherence.proofs.Invariant.Clauses.{owes, LinkOk, Inv}
use Rattle.coherence.proofs.Invariant.Frame.{child_step}
use Rattle.coherence.proofs.Invariant.Tokens.{token_at, token_third}
use Rattle.coherence.proofs.Invariant.Here.{child_ok_lem}
use Rattle.coherence.proofs.Shared.Stays.{node_stays, own_stays, below_moves, below_stays}

module _ {s : State} {v : ℕ} (i : Inv s v) (e : Event) {x : ℕ} (inside : x < s.count) (n : TakeGrantAckNeeds s x) where
  -- the child that is awaited
  abbrev k : ℕ
  k = requester s x

  ok : LinkOk v (view_at s x k) k
  ok = child_ok_lem i n.child

  -- the GrantAck was the token
  out : (awaits (phase s x) k k ≡ true) × (is_grant (slot_d s k) ≡ false) × (owes (node s k) ≡ false)
  out = token_third (token_at _ _ _ _ ok.grants) (differ _ _ n.slot)

  -- no other child is awaited, before and after
  awaited : (j : ℕ) → j ≢ k → awaits idle no_child j ≡ awaits (phase s x) k j
  unfolding awaits
  awaited j o = rw (n.main, ne_eqb k j (λ e. o (sym e)))

  pub take_grant_ack_keeps : (t : State) → TakeGrantAckWrites s e x k t → configuration_ok t ≡ true → Inv t v
  unfolding awaits serves_probes choose
  take_grant_ack_keeps t w valid =
      child_step i inside n.child w valid (node_stays i inside refl (λ _. refl) (λ h. rw n.main at h))
      (λ pos. own_stays i inside pos refl refl (rw n.main) refl (rw n.main))
      (below_moves i n.child refl (rw (out.1, out.2)) ok.probes ok.releases)
      (λ j c o. below_stays i c refl (awaited j o) refl refl)
