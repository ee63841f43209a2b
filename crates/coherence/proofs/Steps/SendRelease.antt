-- Kind 16, send Release, keeps the invariant.
use mathlib.Core.Path.{◌≡◌, refl, sym, ◌∙◌}
use mathlib.Core.Bool.{Bool, true, false, not}
use mathlib.Core.Logic.{◌≢◌}
use Prim.Native.Nat.{ℕ, ◌<◌}
use native.Mathlib.Decide.{ℕ_discrete}
use native.Mathlib.Omega.{arith}
use borrow.Author.Tests.{eq-eqb}
use lib.Dec.{eqb}
use Rattle.words.specs.Vocab.{all, choose}
use Rattle.words.proofs.Facts.{differ}
use Rattle.rules.specs.Codes.{node_limit, rights_n, tip, none, trunk, empty, release, release_data, release_ack}
use Rattle.rules.specs.Cells.{parent, rights, entry, to_probe, pending, node, link, value}
use Rattle.rules.specs.Messages.{installs, is_release}
use Rattle.rules.specs.Scenes.{filled_c}
use Rattle.rules.specs.Configuration.{configuration_ok}
use Rattle.rules.specs.Probe.{serves_probes, carried}
use Rattle.rules.specs.Release.{release_for, awaits}
use Rattle.rules.specs.declared.State.{State}
use Rattle.rules.specs.declared.Link.{Link}
use Rattle.rules.specs.declared.Event.{Event}
use Rattle.writes.proofs.Seen.{dirty, noted, slot_c, slot_d, kept}
use Rattle.writes.proofs.Effects.{left, SendReleaseWrites}
use Rattle.writes.proofs.Needs.{Child, SendReleaseNeeds}
use Rattle.writes.proofs.Views.{view, own_view, child_view}
use Rattle.coherence.proofs.Invariant.Clauses.{◌⇒◌, agrees, exactly, LinkOk, NodeOk, Inv}
use Rattle.coherence.proofs.Invariant.Valid.{dirty_tip}
use Rattle.coherence.proofs.Invariant.Frame.{own_step}
use Rattle.coherence.proofs.Invariant.Tokens.{token_at, token_in, Codes, code_at, implies3}
use Rattle.coherence.proofs.Invariant.Here.{fit_at, own_child, child_small, codes_of}
use Rattle.coherence.proofs.Shared.Stays.{below_values}

-- the codes of the link: a Release from rights that were there, and a ReleaseData from Tip
module _ {r e c k d : ℕ} (w : Codes r e c k d) (h : agrees r e c k d ≡ true) (z : c ≡ empty) where
  clean : r ≢ rights_n → agrees rights_n e release 0 d ≡ true
  unfolding all agrees
  clean n =
      implies3 _ _ _ _ (code_at (λ r e c k d. agrees r e c k d ⇒ eqb c empty ⇒ not (eqb r rights_n) ⇒ agrees rights_n e release 0 d) refl w) h (eq-eqb _ _ z) (differ _ _ n)

  soiled : r ≡ tip → agrees rights_n e release_data 0 d ≡ true
  unfolding all agrees
  soiled t =
      implies3 _ _ _ _ (code_at (λ r e c k d. agrees r e c k d ⇒ eqb c empty ⇒ eqb r tip ⇒ agrees rights_n e release_data 0 d) refl w) h (eq-eqb _ _ z) (eq-eqb _ _ t)

module _ {s : State} {v : ℕ} (i : Inv s v) (e : Event) {x : ℕ} (inside : x < s.count) (pos : 0 < x) (n : SendReleaseNeeds s x) where
  -- the link above
  ok : LinkOk v (view s x) x
  ok = i.links x pos inside

  codes : Codes (rights s x) (entry s (parent s x) x) (slot_c s x) (kept s x) (slot_d s x)
  codes = codes_of i (own_child i x pos inside)

  untrunked : (k : ℕ) → k < node_limit → entry s x k ≢ trunk
  untrunked k l f = let o : entry s x k ≡ none = n.entries k l in omega arith

  -- x holds the last value where it is Tip: it has no entry
  holds : rights s x ≡ tip → value s x ≡ v
  holds e = (i.nodes x inside).last e untrunked

  -- no Release of x was out
  gone : (is_release (slot_c s x) ≡ false) × (eqb (noted s (parent s x)) x ≡ false) × (eqb (slot_d s x) release_ack ≡ false)
  gone = token_in (token_at _ _ _ _ (rw n.main at ok.releases)) refl

  abbrev message : Bool → Link
  message d = filled_c (release_for d) 0 (carried d (value s x)) (link s x)

  own : (d : Bool) → dirty s x ≡ d → LinkOk v (own_view s x rights_n (left (node s x)) (message d)) x
  unfolding release_for carried agrees exactly installs
  own true e = record {
    grants = rw n.main at ok.grants;
    probes = rw n.slot at ok.probes;
    releases = rw (gone.1, gone.2);
    agree = soiled codes ok.agree n.slot top;
    exact = refl;
    copy = λ z _. absurd (z refl);
    granted = ok.granted;
    last = λ _ _. holds top;
  }
    where
      top : rights s x ≡ tip
      top = dirty_tip (fit_at i x inside).own e
  own false e = record {
    grants = rw n.main at ok.grants;
    probes = rw n.slot at ok.probes;
    releases = rw (gone.1, gone.2);
    agree = clean codes ok.agree n.slot n.rights;
    exact = refl;
    copy = λ z _. absurd (z refl);
    granted = ok.granted;
    last = λ f _. last f (ℕ_discrete (rights s x) tip);
  }
    where
      last : entry s (parent s x) x ≡ trunk → Dec (rights s x ≡ tip) → value s (parent s x) ≡ v
      last f (yes t) = sym (rw n.slot at (ok.copy n.rights e)) ∙ holds t
      last f (no t) = rw n.slot at (ok.last f t)

  -- the children have nothing, and no Grant is on its way to them
  below : (k : ℕ) → Child s x k → LinkOk v (child_view s k (left (node s x)) (entry s x k) (to_probe s x k) (pending s x k) (link s k)) k
  unfolding awaits
  below k c = below_values i c (λ h. absurd (h (n.entries k (child_small i c)))) (rw n.main) refl refl

  here : NodeOk v x rights_n (left (node s x)) (entry s x) (to_probe s x) (pending s x)
  unfolding serves_probes choose
  here =
      let q = i.nodes x inside in
      record {
        root = λ e. absurd (omega arith);
        row = q.row;
        probe = λ _. refl;
        sets = λ k l h. rw n.main at (q.sets k l h);
        apart = q.apart;
        last = λ e _. absurd (omega arith);
      }

  pub send_release_keeps : (t : State) → SendReleaseWrites s e x t → configuration_ok t ≡ true → Inv t v
  send_release_keeps t w valid = own_step i inside w valid here (λ _. own (dirty s x) refl) below
