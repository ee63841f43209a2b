-- Kind 11, take ProbeAck, keeps the invariant.
use mathlib.Core.Path.{◌≡◌, refl, ap}
use mathlib.Core.Bool.{true, false, not, ◌&&◌}
use mathlib.Core.Logic.{◌≢◌}
use Prim.Native.Nat.{ℕ, ◌<◌}
use native.Mathlib.Omega.{arith}
use borrow.Author.Tests.{eqb-false, not-true}
use lib.Dec.{eqb}
use Rattle.words.specs.Vocab.{all}
use Rattle.words.proofs.Facts.{both}
use Rattle.rules.specs.Codes.{keeps, tip, trunk, leaving, empty, release_ack}
use Rattle.rules.specs.Cells.{to_probe, pending, node, link}
use Rattle.rules.specs.Messages.{is_probe_ack, is_grant}
use Rattle.rules.specs.Configuration.{configuration_ok}
use Rattle.rules.specs.declared.State.{State}
use Rattle.rules.specs.declared.Event.{Event}
use Rattle.writes.proofs.Seen.{phase, probing, noted, slot_b, kept, slot_d}
use Rattle.writes.proofs.Writes.{with_at}
use Rattle.writes.proofs.Effects.{TakeProbeAckWrites}
use Rattle.writes.proofs.Needs.{Child, TakeProbeAckNeeds}
use Rattle.writes.proofs.Views.{view_at}
use Rattle.coherence.proofs.Invariant.Clauses.{◌⇒◌, token, agrees, exactly, LinkOk, Inv}
use Rattle.coherence.proofs.Invariant.Tokens.{token_at, token_third, Codes, code_at, implies3, ack_release}
use Rattle.coherence.proofs.Invariant.Here.{child_small, child_ok_lem, codes_of, no_grant}
use Rattle.coherence.proofs.Shared.Rows.{with_here, less_none, less_one}
use Rattle.coherence.proofs.Shared.DataTaken.{taken_is, taken_keeps}

-- the codes of the link: the entry becomes what the ProbeAck keeps, and the child is not Tip
module _ {r e c k d : ℕ} (w : Codes r e c k d) (h : agrees r e c k d ≡ true) (a : is_probe_ack c ≡ true) where
  fell : is_grant d ≡ false → (agrees r k empty 0 d ≡ true) × (not (eqb r tip) ≡ true)
  unfolding all agrees
  fell g =
      both (agrees r k empty 0 d) (not (eqb r tip))
      (implies3 _ _ _ _ (code_at (λ r e c k d. agrees r e c k d ⇒ is_probe_ack c ⇒ not (is_grant d) ⇒ (agrees r k empty 0 d && not (eqb r tip))) refl w) h a (ap not g))

  fell_exactly : exactly r e c k d ≡ true → exactly r k empty 0 d ≡ true
  unfolding all agrees exactly
  fell_exactly x = implies3 _ _ _ _ (code_at (λ r e c k d. agrees r e c k d ⇒ is_probe_ack c ⇒ exactly r e c k d ⇒ exactly r k empty 0 d) refl w) h a x

module _ {s : State} {v : ℕ} (i : Inv s v) (e : Event) {x k : ℕ} (inside : x < s.count) (child : Child s x k) (n : TakeProbeAckNeeds s x k) where
  ok : LinkOk v (view_at s x k) k
  ok = child_ok_lem i child

  -- k is pending, so x awaits nobody
  ungranted : is_grant (slot_d s k) ≡ false
  ungranted = no_grant i child k (child_small i child) n.pending

  -- the ProbeAck was the token, and it goes with the pending member
  alone : (pending s x k ≡ true) × (not (eqb (slot_b s k) empty) ≡ false) × (probing s k ≡ false)
  alone = token_third (token_at _ _ _ _ ok.probes) n.slot

  probes : token (with_at (pending s x) k false k) (not (eqb (slot_b s k) empty)) (probing s k) false ≡ true
  probes = rw (with_here (pending s x) k false, alone.1, alone.2)

  releases : token (eqb (phase s k) leaving) false (eqb (noted s x) k) (eqb (slot_d s k) release_ack) ≡ true
  releases = rw (ack_release (codes_of i child).up n.slot) at ok.releases

  not_trunk : kept s k ≢ trunk
  not_trunk e = let l : kept s k < keeps = (codes_of i child).kept in omega arith

  pub take_probe_ack_keeps : (t : State) → TakeProbeAckWrites s e x k t → configuration_ok t ≡ true → Inv t v
  take_probe_ack_keeps t w =
      let f = fell (codes_of i child) ok.agree n.slot ungranted in
      taken_keeps i inside child (kept s k) (noted s x) (to_probe s x) (with_at (pending s x) k false)
      n.data_fits_lem not_trunk n.kept (eqb-false _ _ (not-true _ f.1)) ungranted
      (less_none (to_probe s x) k) (less_one (pending s x) k) (λ j c o. refl)
      _ (taken_is (link s k) (node s x)) w probes releases f.0 (fell_exactly (codes_of i child) ok.agree n.slot ok.exact)
