-- Kind 10, send ProbeAck, keeps the invariant.
use mathlib.Core.Path.{◌≡◌, refl, sym, ◌∙◌, ap}
use mathlib.Core.Bool.{Bool, true, false, not, ◌&&◌, false≢true}
use mathlib.Core.Logic.{◌≢◌}
use Prim.Native.Nat.{ℕ, ◌<◌, ◌≤◌}
use native.Mathlib.Omega.{arith}
use borrow.Author.Tests.{eqb-true, not-true, le-leb, eq-eqb, ne_eqb}
use lib.Dec.{eqb, leb}
use Rattle.words.specs.Vocab.{all}
use Rattle.words.proofs.Facts.{and_true, choose_false}
use Rattle.rules.specs.Codes.{node_limit, ups, keeps, rights_n, tip, none, trunk, empty, probe_ack, probe_ack_data}
use Rattle.rules.specs.Cells.{parent, rights, entry, to_probe, pending, node, link, value}
use Rattle.rules.specs.Messages.{installs, is_probe_ack, is_grant}
use Rattle.rules.specs.Scenes.{value_at, filled_c}
use Rattle.rules.specs.Configuration.{configuration_ok}
use Rattle.rules.specs.Probe.{cap_met, fallen, carried, probe_ack_for}
use Rattle.rules.specs.declared.State.{State}
use Rattle.rules.specs.declared.Link.{Link}
use Rattle.rules.specs.declared.Event.{Event}
use Rattle.writes.proofs.Seen.{dirty, cap, slot_b, slot_c, kept, slot_d}
use Rattle.writes.proofs.Cases.{by_cap}
use Rattle.writes.proofs.Effects.{acked, SendProbeAckWrites}
use Rattle.writes.proofs.Needs.{Child, SendProbeAckNeeds, all_none, no_entry}
use Rattle.writes.proofs.Views.{view, own_view, child_view}
use Rattle.coherence.proofs.Invariant.Clauses.{◌⇒◌, data_rule, agrees, exactly, LinkOk, NodeOk, Inv}
use Rattle.coherence.proofs.Invariant.Valid.{dirty_tip}
use Rattle.coherence.proofs.Invariant.Frame.{own_step}
use Rattle.coherence.proofs.Invariant.Tokens.{token_at, token_second, Codes, code_at, implies2}
use Rattle.coherence.proofs.Invariant.Here.{small, fit_at, own_child, bare, child_small, codes_of, no_grant}
use Rattle.coherence.proofs.Shared.Stays.{below_values}
use Rattle.coherence.proofs.Shared.Fallen.{fallen_under, fallen_code, fallen_none}

-- before: C is empty, no Grant is on its way
abbrev vacant : ℕ → ℕ → ℕ → Bool
vacant r e d = agrees r e empty 0 d && not (is_grant d)

-- the codes of the link
module _ {r e c k d : ℕ} (w : Codes r e c k d) (h : vacant r e d ≡ true) where
  -- the ProbeAck c with the kept rights k: they are not above the old ones, and data comes from Tip
  answered : (is_probe_ack c && leb k r && data_rule r c) ≡ true → agrees k e c k d ≡ true
  unfolding all agrees
  answered = implies2 _ _ _ (code_at (λ r e c k d. vacant r e d ⇒ (is_probe_ack c && leb k r && data_rule r c) ⇒ agrees k e c k d) refl w) h

  -- a Trunk entry was exact
  was_tip : e ≡ trunk → r ≡ tip
  unfolding all agrees
  was_tip f = eqb-true _ _ (implies2 _ _ _ (code_at (λ r e c k d. vacant r e d ⇒ eqb e trunk ⇒ eqb r tip) refl w) h (eq-eqb _ _ f))

module _ {s : State} {v : ℕ} (i : Inv s v) (e : Event) {x : ℕ} (inside : x < s.count) (pos : 0 < x) (n : SendProbeAckNeeds s x) where
  -- the link above
  ok : LinkOk v (view s x) x
  ok = i.links x pos inside

  codes : Codes (rights s x) (entry s (parent s x) x) (slot_c s x) (kept s x) (slot_d s x)
  codes = codes_of i (own_child i x pos inside)

  -- the rights after
  abbrev low : ℕ
  low = fallen (cap s x) (rights s x)

  -- the probe was the token
  held : (pending s (parent s x) x ≡ true) × (not (eqb (slot_b s x) empty) ≡ false) × (is_probe_ack (slot_c s x) ≡ false)
  held = token_second (token_at _ _ _ _ ok.probes) n.probe

  was_vacant : vacant (rights s x) (entry s (parent s x) x) (slot_d s x) ≡ true
  unfolding agrees
  was_vacant = and_true _ _ (rw n.slot at ok.agree) (ap not (no_grant i (own_child i x pos inside) x (small i x inside) held.0))

  -- no entry is Trunk
  untrunked : (k : ℕ) → k < node_limit → entry s x k ≢ trunk
  unfolding cap_met
  untrunked k l =
      by_cap (λ (b : Bool). b ≡ true → entry s x k ≢ trunk) _ (cap s x) (λ _ h. absurd (false≢true h)) (λ _ h. no_entry s x trunk (not-true _ h) k l)
      (λ _ h e. let f : entry s x k ≡ none = all_none s x h k l in omega arith) (λ h. absurd (false≢true h)) n.met

  -- rights that fall to N leave no entry
  no_entries_lem : low ≡ rights_n → (k : ℕ) → k < node_limit → entry s x k ≡ none
  unfolding cap_met
  no_entries_lem e k l =
      by_cap (λ (b : Bool). b ≡ true → entry s x k ≡ none) _ (cap s x) (λ _ h. absurd (false≢true h)) (λ c _. bare i x k inside l (fallen_none _ _ c e))
      (λ _ h. all_none s x h k l) (λ h. absurd (false≢true h)) n.met

  -- the value stays where the rights do not fall to N
  stays : low ≢ rights_n → value_at low (value s x) ≡ value s x
  unfolding value_at
  stays h = choose_false _ _ (ne_eqb low rights_n h)

  -- under a Trunk entry x was Tip, and so held the last value
  holds : entry s (parent s x) x ≡ trunk → value s x ≡ v
  holds e = (i.nodes x inside).last (was_tip codes was_vacant e) untrunked

  -- the codes after
  answer : (c : ℕ) → c < ups → is_probe_ack c ≡ true → data_rule (rights s x) c ≡ true → agrees low (entry s (parent s x) x) c low (slot_d s x) ≡ true
  answer c l a d =
      let z : Codes (rights s x) (entry s (parent s x) x) c low (slot_d s x) = record { rights = codes.rights; entry = codes.entry; up = l; kept = fallen_code _ _; down = codes.down } in
      answered z was_vacant (and_true _ _ (and_true _ _ a (le-leb _ _ (fallen_under _ _))) d)

  abbrev message : Bool → Link
  message d = filled_c (probe_ack_for d) low (carried d (value s x)) (link s x)

  own : (d : Bool) → dirty s x ≡ d → LinkOk v (own_view s x low (acked low (node s x)) (message d)) x
  unfolding probe_ack_for carried agrees exactly installs
  own true e = record {
    grants = ok.grants;
    probes = rw (held.0, held.1);
    releases = rw n.slot at ok.releases;
    agree = answer probe_ack_data (omega arith) refl (eq-eqb _ _ (dirty_tip (fit_at i x inside).own e));
    exact = le-leb low low (omega arith);
    copy = λ h _. stays h;
    granted = ok.granted;
    last = λ f _. holds f;
  }
  own false e = record {
    grants = ok.grants;
    probes = rw (held.0, held.1);
    releases = rw n.slot at ok.releases;
    agree = answer probe_ack (omega arith) refl refl;
    exact = le-leb low low (omega arith);
    copy = λ h _. stays h ∙ same (λ z. let l : low ≤ rights s x = fallen_under _ _ in h (omega arith));
    granted = ok.granted;
    last = λ f _. sym (same (λ z. let t : rights s x ≡ tip = was_tip codes was_vacant f in omega arith)) ∙ holds f;
  }
    where
      same : rights s x ≢ rights_n → value s x ≡ value s (parent s x)
      same h = rw n.slot at (ok.copy h e)

  -- a child that has something, or a Grant on its way, sees the same value above it
  below : (k : ℕ) → Child s x k → LinkOk v (child_view s k (acked low (node s x)) (entry s x k) (to_probe s x k) (pending s x k) (link s k)) k
  below k c = below_values i c (λ h. (stays (λ z. h (no_entries_lem z k (child_small i c))), refl)) refl refl refl

  here : NodeOk v x low (acked low (node s x)) (entry s x) (to_probe s x) (pending s x)
  here =
      let q = i.nodes x inside in
      let l : low < keeps = fallen_code _ _ in
      record {
        root = λ e. absurd (omega arith);
        row = q.row;
        probe = λ h. absurd (false≢true h);
        sets = λ k l h. absurd (false≢true (rw (n.sets.to_probe k l, n.sets.pending k l) at h));
        apart = q.apart;
        last = λ e _. absurd (omega arith);
      }

  pub send_probe_ack_keeps : (t : State) → SendProbeAckWrites s e x t → configuration_ok t ≡ true → Inv t v
  send_probe_ack_keeps t w valid = own_step i inside w valid here (λ _. own (dirty s x) refl) below
