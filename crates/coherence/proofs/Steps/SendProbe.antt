-- Kind 8, send Probe, keeps the invariant.
use mathlib.Core.Path.{◌≡◌, refl, sym, ◌∙◌}
use mathlib.Core.Bool.{true, false, not, ◌||◌}
use mathlib.Core.Logic.{◌≢◌}
use Prim.Native.Nat.{ℕ, ◌<◌}
use native.Mathlib.Decide.{ℕ_discrete}
use native.Mathlib.Omega.{arith}
use lib.Dec.{eqb}
use Rattle.words.proofs.Facts.{differ, clash, choose_at, by_test, or_left}
use Rattle.rules.specs.Codes.{node_limit, clear, empty}
use Rattle.rules.specs.Cells.{rights, entry, to_probe, pending, node}
use Rattle.rules.specs.Messages.{is_probe_ack}
use Rattle.rules.specs.Configuration.{configuration_ok}
use Rattle.rules.specs.Probe.{cap_for}
use Rattle.rules.specs.declared.State.{State}
use Rattle.rules.specs.declared.Event.{Event}
use Rattle.writes.proofs.Seen.{phase, purpose, probing, cap, slot_b, slot_c}
use Rattle.writes.proofs.Cases.{by_purpose}
use Rattle.writes.proofs.Writes.{with_at}
use Rattle.writes.proofs.Effects.{SendProbeWrites}
use Rattle.writes.proofs.Needs.{Child, SendProbeNeeds}
use Rattle.writes.proofs.Views.{view_at}
use Rattle.coherence.proofs.Invariant.Clauses.{LinkOk, NodeOk, Inv}
use Rattle.coherence.proofs.Invariant.Valid.{open_cap}
use Rattle.coherence.proofs.Invariant.Frame.{child_step}
use Rattle.coherence.proofs.Invariant.Tokens.{token_at, token_in}
use Rattle.coherence.proofs.Invariant.Here.{fit_at, child_small, child_ok_lem}
use Rattle.coherence.proofs.Shared.Rows.{with_here, with_there}
use Rattle.coherence.proofs.Shared.Stays.{below_moves, below_stays}

module _ {s : State} {v : ℕ} (i : Inv s v) (e : Event) {x k : ℕ} (inside : x < s.count) (child : Child s x k) (n : SendProbeNeeds s x k) where
  q : NodeOk v x (rights s x) (node s x) (entry s x) (to_probe s x) (pending s x)
  q = i.nodes x inside

  ok : LinkOk v (view_at s x k) k
  ok = child_ok_lem i child

  -- the child was not pending, so no Probe and no ProbeAck of it was out
  calm : (not (eqb (slot_b s k) empty) ≡ false) × (probing s k ≡ false) × (is_probe_ack (slot_c s k) ≡ false)
  calm = token_in (token_at _ _ _ _ ok.probes) (q.apart k (child_small i child) n.to_probe)

  -- the Probe has a cap
  full : cap_for (probing s x) (cap s x) (purpose s x) ≢ empty
  unfolding cap_for
  full =
      by_test (λ (c : ℕ). c ≢ empty) (probing s x) _ _ (open_cap (fit_at i x inside).own) λ _.
      by_purpose (λ (c : ℕ). c ≢ empty) _ (purpose s x) (λ _ e. omega arith) (λ _ e. omega arith) (λ _ e. omega arith) (λ _ e. omega arith) (λ e. omega arith)

  here : NodeOk v x (rights s x) (node s x) (entry s x) (with_at (to_probe s x) k false) (with_at (pending s x) k true)
  here = record {
    root = q.root;
    row = q.row;
    probe = q.probe;
    sets = λ j l h. sets j l (ℕ_discrete j k) h;
    apart = λ j l h. apart j l (ℕ_discrete j k) h;
    last = q.last;
  }
    where
      sets : (j : ℕ) → j < node_limit → Dec (j ≡ k) → (with_at (to_probe s x) k false j || with_at (pending s x) k true j) ≡ true → (eqb (phase s x) clear || probing s x) ≡ true
      sets j l (yes e) h = q.sets j l (or_left (to_probe s x j) (pending s x j) (rw e n.to_probe))
      sets j l (no o) h = q.sets j l (rw (with_there (to_probe s x) k false j o, with_there (pending s x) k true j o) at h)

      apart : (j : ℕ) → j < node_limit → Dec (j ≡ k) → with_at (to_probe s x) k false j ≡ true → with_at (pending s x) k true j ≡ false
      apart j l (yes e) h = clash h (choose_at j k false (to_probe s x j) e)
      apart j l (no o) h = with_there (pending s x) k true j o ∙ q.apart j l (sym (with_there (to_probe s x) k false j o) ∙ h)

  pub send_probe_keeps : (t : State) → SendProbeWrites s e x k t → configuration_ok t ≡ true → Inv t v
  send_probe_keeps t w valid =
      child_step i inside child w valid here (λ pos. i.links x pos inside)
      (below_moves i child refl ok.grants (rw (with_here (pending s x) k true, differ _ _ full, calm.1, calm.2)) ok.releases)
      (λ j c o. below_stays i c refl refl (with_there (pending s x) k true j o) refl)
