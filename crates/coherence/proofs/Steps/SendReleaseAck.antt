-- Kind 18, send ReleaseAck, keeps the invariant.
use mathlib.Core.Path.{◌≡◌, refl, sym, ◌∙◌}
use mathlib.Core.Bool.{true, false, false≢true}
use Prim.Native.Nat.{ℕ, ◌<◌}
use borrow.Author.Tests.{eq-eqb, ne_eqb}
use lib.Dec.{eqb}
use Rattle.rules.specs.Codes.{leaving, no_child, release_ack}
use Rattle.rules.specs.With.{with_release}
use Rattle.rules.specs.Cells.{entry, to_probe, pending, node, link}
use Rattle.rules.specs.Messages.{is_release, carries_down}
use Rattle.rules.specs.Scenes.{filled_d}
use Rattle.rules.specs.Configuration.{configuration_ok}
use Rattle.rules.specs.declared.State.{State}
use Rattle.rules.specs.declared.Event.{Event}
use Rattle.writes.proofs.Seen.{phase, noted, slot_c, slot_d}
use Rattle.writes.proofs.Effects.{SendReleaseAckWrites}
use Rattle.writes.proofs.Needs.{Child, SendReleaseAckNeeds}
use Rattle.writes.proofs.Views.{view_at, child_view}
use Rattle.coherence.proofs.Invariant.Clauses.{agrees, exactly, LinkOk, Inv}
use Rattle.coherence.proofs.Invariant.Frame.{child_step}
use Rattle.coherence.proofs.Invariant.Tokens.{token_at, token_second}
use Rattle.coherence.proofs.Invariant.Here.{child_ok_lem}
use Rattle.coherence.proofs.Shared.Stays.{node_stays, own_stays, below_stays}

module _ {s : State} {v : ℕ} (i : Inv s v) (e : Event) {x : ℕ} (inside : x < s.count) (n : SendReleaseAckNeeds s x) where
  -- the child that is noted
  abbrev k : ℕ
  k = noted s x

  ok : LinkOk v (view_at s x k) k
  ok = child_ok_lem i n.child

  -- the noted child was the token
  out : (eqb (phase s k) leaving ≡ true) × (is_release (slot_c s k) ≡ false) × (eqb (slot_d s k) release_ack ≡ false)
  out = token_second (token_at _ _ _ _ ok.releases) (eq-eqb k k refl)

  -- no child is noted any more
  none_noted : (j : ℕ) → Child s x j → eqb no_child j ≡ false
  none_noted j c = ne_eqb no_child j (λ e. c.below (sym e))

  acted : LinkOk v (child_view s k (with_release (node s x) no_child) (entry s x k) (to_probe s x k) (pending s x k) (filled_d release_ack 0 (link s k))) k
  unfolding agrees exactly carries_down
  acted = record {
    grants = rw n.slot at ok.grants;
    probes = ok.probes;
    releases = rw (out.0, out.1, none_noted k n.child);
    agree = rw n.slot at ok.agree;
    exact = rw n.slot at ok.exact;
    copy = ok.copy;
    granted = λ h. absurd (false≢true h);
    last = ok.last;
  }

  pub send_release_ack_keeps : (t : State) → SendReleaseAckWrites s e x k t → configuration_ok t ≡ true → Inv t v
  send_release_ack_keeps t w valid =
      child_step i inside n.child w valid (node_stays i inside refl (i.nodes x inside).probe (λ h. h))
      (λ pos. own_stays i inside pos refl refl refl refl refl)
      acted
      (λ j c o. below_stays i c refl refl refl (none_noted j c ∙ sym (ne_eqb k j (λ e. o (sym e)))))
