-- A step at x that moves no value, right or entry: what is left to show at x is the probe and the sets, and on its links the tokens.
-- Slot A is in no clause.
use mathlib.Core.Path.{◌≡◌, sym, ◌∙◌}
use mathlib.Core.Bool.{Bool, true, false, ◌||◌}
use mathlib.Core.Logic.{◌≢◌}
use Prim.Native.Nat.{ℕ, ◌<◌}
use native.Mathlib.Omega.{arith}
use lib.Dec.{eqb}
use Rattle.words.proofs.Facts.{clash}
use Rattle.rules.specs.Codes.{node_limit, none, clear, leaving}
use Rattle.rules.specs.With.{with_a, with_b, with_e}
use Rattle.rules.specs.Cells.{rights, entry, to_probe, pending, node, link, value}
use Rattle.rules.specs.Probe.{serves_probes}
use Rattle.rules.specs.Release.{awaits}
use Rattle.rules.specs.declared.State.{State}
use Rattle.rules.specs.declared.Node.{Node}
use Rattle.rules.specs.declared.Link.{Link}
use Rattle.writes.proofs.Seen.{dirty, phase, requester, probing, noted}
use Rattle.writes.proofs.Needs.{Child}
use Rattle.writes.proofs.Views.{own_view, child_view}
use Rattle.coherence.proofs.Invariant.Clauses.{owes, grant_token, probe_token, release_token, LinkOk, NodeOk, Inv}
use Rattle.coherence.proofs.Invariant.Here.{child_ok_lem, none_below}

-- other messages in A, B and E
abbrev sent : ℕ → ℕ → ℕ → Link → Link
sent a b e l = with_e (with_b (with_a l a) b) e

module _ {s : State} {v : ℕ} (i : Inv s v) {x : ℕ} (inside : x < s.count) where
  -- the node: its rows stay
  pub node_stays : {m : Node} → m.value ≡ value s x → (m.probe ≡ true → serves_probes m.phase ≡ true)
      → ((eqb (phase s x) clear || probing s x) ≡ true → (eqb m.phase clear || m.probe) ≡ true)
      → NodeOk v x (rights s x) m (entry s x) (to_probe s x) (pending s x)
  node_stays f p c =
      let q = i.nodes x inside in
      record { root = q.root; row = q.row; probe = p; sets = λ k l h. c (q.sets k l h); apart = q.apart; last = rw f q.last }

  -- and with other members in to-probe, where none is pending
  pub node_probes : {m : Node} {ws : ℕ → Bool} → m.value ≡ value s x → (m.probe ≡ true → serves_probes m.phase ≡ true)
      → ((k : ℕ) → k < node_limit → (ws k || pending s x k) ≡ true → (eqb m.phase clear || m.probe) ≡ true)
      → ((k : ℕ) → k < node_limit → pending s x k ≡ false) → NodeOk v x (rights s x) m (entry s x) ws (pending s x)
  node_probes f p c z =
      let q = i.nodes x inside in
      record { root = q.root; row = q.row; probe = p; sets = c; apart = λ k l _. z k l; last = rw f q.last }

  -- the link above: where tokens move, and where they stay
  pub own_moves : {m : Node} {a b e : ℕ} → 0 < x → m.dirty ≡ dirty s x → m.value ≡ value s x
      → grant_token (own_view s x (rights s x) m (sent a b e (link s x))) x ≡ true
      → probe_token (own_view s x (rights s x) m (sent a b e (link s x))) ≡ true
      → release_token (own_view s x (rights s x) m (sent a b e (link s x))) x ≡ true
      → LinkOk v (own_view s x (rights s x) m (sent a b e (link s x))) x
  own_moves pos d w g p r =
      let ok = i.links x pos inside in
      record { grants = g; probes = p; releases = r; agree = ok.agree; exact = ok.exact; copy = rw (d, w) ok.copy; granted = ok.granted; last = ok.last }

  pub own_stays : {m : Node} {a : ℕ} → 0 < x → m.dirty ≡ dirty s x → m.value ≡ value s x
      → owes m ≡ owes (node s x) → m.probe ≡ probing s x → eqb m.phase leaving ≡ eqb (phase s x) leaving
      → LinkOk v (own_view s x (rights s x) m (with_a (link s x) a)) x
  own_stays pos d w g p r =
      let ok = i.links x pos inside in
      own_moves pos d w (rw g ok.grants) (rw p ok.probes) (rw r ok.releases)

-- the link of a child: where tokens move, and where they stay
module _ {s : State} {v : ℕ} (i : Inv s v) {x k : ℕ} (c : Child s x k) where
  pub below_moves : {m : Node} {listed waits : Bool} {a b e : ℕ} → m.value ≡ value s x
      → grant_token (child_view s k m (entry s x k) listed waits (sent a b e (link s k))) k ≡ true
      → probe_token (child_view s k m (entry s x k) listed waits (sent a b e (link s k))) ≡ true
      → release_token (child_view s k m (entry s x k) listed waits (sent a b e (link s k))) k ≡ true
      → LinkOk v (child_view s k m (entry s x k) listed waits (sent a b e (link s k))) k
  below_moves w g p r =
      let ok = child_ok_lem i c in
      record { grants = g; probes = p; releases = r; agree = ok.agree; exact = ok.exact; copy = rw w ok.copy; granted = rw w ok.granted; last = rw w ok.last }

  pub below_stays : {m : Node} {listed waits : Bool} {a : ℕ} → m.value ≡ value s x
      → awaits m.phase m.requester k ≡ awaits (phase s x) (requester s x) k → waits ≡ pending s x k → eqb m.release k ≡ eqb (noted s x) k
      → LinkOk v (child_view s k m (entry s x k) listed waits (with_a (link s k) a)) k
  below_stays w g p r =
      let ok = child_ok_lem i c in
      below_moves w (rw g ok.grants) (rw p ok.probes) (rw r ok.releases)

  -- and where x may have another value, and v' be the last one: a child with no entry sees neither
  pub below_values : {v' : ℕ} {m : Node} {listed waits : Bool} → (entry s x k ≢ none → (m.value ≡ value s x) × (v ≡ v'))
      → awaits m.phase m.requester k ≡ awaits (phase s x) (requester s x) k → waits ≡ pending s x k → eqb m.release k ≡ eqb (noted s x) k
      → LinkOk v' (child_view s k m (entry s x k) listed waits (link s k)) k
  below_values same g p r =
      let ok = child_ok_lem i c in
      record {
        grants = rw g ok.grants;
        probes = rw p ok.probes;
        releases = rw r ok.releases;
        agree = ok.agree;
        exact = ok.exact;
        copy = λ h d. rw (same (λ z. h (none_below i c z).0)).0 (ok.copy h d);
        granted = λ h. ok.granted h ∙ sym (same (λ z. clash h (none_below i c z).1)).0;
        last = λ f h. let u = same (λ z. omega arith) in rw u.0 (ok.last f h) ∙ u.1;
      }
