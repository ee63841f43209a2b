-- Kind 19, take ReleaseAck, keeps the invariant.
use mathlib.Core.Path.{◌≡◌, refl}
use mathlib.Core.Bool.{true, false, false≢true}
use Prim.Native.Nat.{ℕ, ◌<◌}
use borrow.Author.Tests.{eq-eqb}
use lib.Dec.{eqb}
use Rattle.words.specs.Vocab.{choose}
use Rattle.rules.specs.Codes.{leaving, empty}
use Rattle.rules.specs.Cells.{parent, rights, node, link}
use Rattle.rules.specs.Messages.{is_release, carries_down}
use Rattle.rules.specs.Scenes.{idled, filled_d}
use Rattle.rules.specs.Configuration.{configuration_ok}
use Rattle.rules.specs.Probe.{serves_probes}
use Rattle.rules.specs.Release.{awaits}
use Rattle.rules.specs.declared.State.{State}
use Rattle.rules.specs.declared.Event.{Event}
use Rattle.writes.proofs.Seen.{phase, noted, slot_c}
use Rattle.writes.proofs.Effects.{TakeReleaseAckWrites}
use Rattle.writes.proofs.Needs.{TakeReleaseAckNeeds}
use Rattle.writes.proofs.Views.{view, own_view}
use Rattle.coherence.proofs.Invariant.Clauses.{agrees, exactly, LinkOk, Inv}
use Rattle.coherence.proofs.Invariant.Frame.{own_step}
use Rattle.coherence.proofs.Invariant.Tokens.{token_at, token_third}
use Rattle.coherence.proofs.Shared.Stays.{node_stays, below_stays}

module _ {s : State} {v : ℕ} (i : Inv s v) (e : Event) {x : ℕ} (inside : x < s.count) (pos : 0 < x) (n : TakeReleaseAckNeeds s x) where
  ok : LinkOk v (view s x) x
  ok = i.links x pos inside

  -- the ReleaseAck was the token
  out : (eqb (phase s x) leaving ≡ true) × (is_release (slot_c s x) ≡ false) × (eqb (noted s (parent s x)) x ≡ false)
  out = token_third (token_at _ _ _ _ ok.releases) (eq-eqb _ _ n.slot)

  own : LinkOk v (own_view s x (rights s x) (idled (node s x)) (filled_d empty 0 (link s x))) x
  unfolding agrees exactly carries_down
  own = record {
    grants = rw (n.main, n.slot) at ok.grants;
    probes = ok.probes;
    releases = rw (out.1, out.2);
    agree = rw n.slot at ok.agree;
    exact = rw n.slot at ok.exact;
    copy = ok.copy;
    granted = λ h. absurd (false≢true h);
    last = ok.last;
  }

  pub take_release_ack_keeps : (t : State) → TakeReleaseAckWrites s e x t → configuration_ok t ≡ true → Inv t v
  unfolding awaits serves_probes choose
  take_release_ack_keeps t w valid =
      own_step i inside w valid (node_stays i inside refl (λ _. refl) (λ h. rw n.main at h)) (λ _. own)
      (λ k c. below_stays i c refl (rw n.main) refl refl)
