-- Kind 12, take Grant, keeps the invariant.
use mathlib.Core.Path.{◌≡◌, refl, sym, ◌∙◌}
use mathlib.Core.Bool.{Bool, true, false, not, ◌&&◌, ◌||◌, false≢true}
use mathlib.Core.Logic.{◌≢◌, ◌⊎◌, inl, inr}
use Prim.Native.Nat.{ℕ, ◌<◌}
use native.Mathlib.Omega.{arith}
use borrow.Author.Tests.{eqb-true, eq-eqb}
use lib.Dec.{eqb}
use Rattle.words.specs.Vocab.{all, choose}
use Rattle.words.proofs.Facts.{both, implies, clash, decided, choose_true, choose_false, by_test}
use Rattle.rules.specs.Codes.{node_limit, rights_n, rights_b, tip, none, confirm, empty, grant_t, grant_data_t, grant_data_b, release_ack}
use Rattle.rules.specs.With.{with_dirty, with_value, with_phase}
use Rattle.rules.specs.Cells.{parent, rights, entry, to_probe, pending, node, link, value}
use Rattle.rules.specs.Messages.{installs, is_probe_ack, is_release, is_grant, carries_down, granted_rights}
use Rattle.rules.specs.Scenes.{installed, filled_d}
use Rattle.rules.specs.Configuration.{configuration_ok}
use Rattle.rules.specs.Grant.{grant_fits}
use Rattle.rules.specs.Release.{awaits}
use Rattle.rules.specs.declared.State.{State}
use Rattle.rules.specs.declared.Node.{Node}
use Rattle.rules.specs.declared.Event.{Event}
use Rattle.writes.proofs.Seen.{phase, requester, noted, slot_b, slot_c, slot_d, slot_e, kept, down, probing}
use Rattle.writes.proofs.Cases.{by_purpose}
use Rattle.writes.proofs.Effects.{TakeGrantWrites}
use Rattle.writes.proofs.Needs.{Child, TakeGrantNeeds}
use Rattle.writes.proofs.Views.{view, own_view, child_view}
use Rattle.coherence.proofs.Invariant.Clauses.{◌⇒◌, owes, agrees, exactly, LinkOk, NodeOk, Inv}
use Rattle.coherence.proofs.Invariant.Frame.{own_step}
use Rattle.coherence.proofs.Invariant.Tokens.{token_at, token_in, token_first, Codes, code_at, implies2, implies3, no_message}
use Rattle.coherence.proofs.Invariant.Here.{small, own_child, clean, bare, child_small, codes_of, no_grant}
use Rattle.coherence.proofs.Shared.Stays.{below_values}

module _ {r e c k d : ℕ} (w : Codes r e c k d) where
  -- the Grant fits the rights: data comes to N, and GrantT to B
  fits : (pu : ℕ) → grant_fits pu r d ≡ true → (is_grant d && eqb r (choose (carries_down d) rights_n rights_b)) ≡ true
  unfolding all choose grant_fits is_grant carries_down
  fits pu =
      by_purpose (λ (b : Bool). b ≡ true → (is_grant d && eqb r (choose (carries_down d) rights_n rights_b)) ≡ true) _ pu
      (λ _ h. absurd (false≢true h))
      (λ _. implies _ _ (code_at (λ r e c k d. (eqb r rights_n && (eqb d grant_data_b || eqb d grant_data_t)) ⇒ (is_grant d && eqb r (choose (carries_down d) rights_n rights_b))) refl w))
      (λ _. implies _ _ (code_at (λ r e c k d. ((eqb r rights_b && eqb d grant_t) || (eqb r rights_n && eqb d grant_data_t)) ⇒ (is_grant d && eqb r (choose (carries_down d) rights_n rights_b))) refl w))
      (λ _ h. absurd (false≢true h)) (λ h. absurd (false≢true h))

  module _ (h : agrees r e c k d ≡ true) (g : is_grant d ≡ true) where
    -- the granted level is the entry
    levelled : e ≡ granted_rights d
    unfolding all agrees granted_rights
    levelled = eqb-true _ _ (implies2 _ _ _ (code_at (λ r e c k d. agrees r e c k d ⇒ is_grant d ⇒ eqb e (granted_rights d)) refl w) h g)

    taken : c ≡ empty → (agrees (granted_rights d) e c k empty ≡ true) × (exactly (granted_rights d) e c k empty ≡ true)
    unfolding all agrees exactly granted_rights
    taken z =
        both (agrees (granted_rights d) e c k empty) _
        (implies3 _ _ _ _ (code_at (λ r e c k d. agrees r e c k d ⇒ is_grant d ⇒ eqb c empty ⇒ (agrees (granted_rights d) e c k empty && exactly (granted_rights d) e c k empty)) refl w) h g (eq-eqb _ _ z))

module _ {s : State} {v : ℕ} (i : Inv s v) (e : Event) {x : ℕ} (inside : x < s.count) (pos : 0 < x) (n : TakeGrantNeeds s x) where
  -- the link above
  ok : LinkOk v (view s x) x
  ok = i.links x pos inside

  child : Child s (parent s x) x
  child = own_child i x pos inside

  codes : Codes (rights s x) (entry s (parent s x) x) (slot_c s x) (kept s x) (slot_d s x)
  codes = codes_of i child

  fit : (is_grant (slot_d s x) ≡ true) × (eqb (rights s x) (choose (carries_down (slot_d s x)) rights_n rights_b) ≡ true)
  fit = both (is_grant (slot_d s x)) _ (fits codes (node s x).purpose n.fits)

  -- the rights before
  was : rights s x ≡ choose (carries_down (slot_d s x)) rights_n rights_b
  was = eqb-true _ _ fit.1

  low : rights s x ≢ tip
  low = rw was (by_test (λ (z : ℕ). z ≢ tip) (carries_down (slot_d s x)) rights_n rights_b (λ _ z. omega arith) (λ _ z. omega arith))

  -- the parent awaits x
  awaited : (awaits (phase s (parent s x)) (requester s (parent s x)) x ≡ true) × (owes (node s x) ≡ false) × (not (eqb (slot_e s x) empty) ≡ false)
  awaited = token_first (token_at _ _ _ _ ok.grants) fit.0

  -- ALONE: so x is not pending there
  alone : pending s (parent s x) x ≡ false
  alone = go (decided (pending s (parent s x) x))
    where
      go : (pending s (parent s x) x ≡ true) ⊎ (pending s (parent s x) x ≡ false) → pending s (parent s x) x ≡ false
      go (inl e) = clash fit.0 (no_grant i child x (small i x inside) e)
      go (inr e) = e

  unprobed : (not (eqb (slot_b s x) empty) ≡ false) × (probing s x ≡ false) × (is_probe_ack (slot_c s x) ≡ false)
  unprobed = token_in (token_at _ _ _ _ ok.probes) alone

  -- x is not leaving
  staying : (is_release (slot_c s x) ≡ false) × (eqb (noted s (parent s x)) x ≡ false) × (eqb (slot_d s x) release_ack ≡ false)
  staying = token_in (token_at _ _ _ _ (rw n.main at ok.releases)) refl

  slot : slot_c s x ≡ empty
  slot = no_message codes.up unprobed.2 staying.0

  -- the value after
  abbrev new : ℕ
  new = installed (slot_d s x) (down s x) (value s x)

  copies : new ≡ value s (parent s x)
  unfolding installed choose installs
  copies = go (decided (carries_down (slot_d s x)))
    where
      go : (carries_down (slot_d s x) ≡ true) ⊎ (carries_down (slot_d s x) ≡ false) → new ≡ value s (parent s x)
      go (inl f) = choose_true _ _ f ∙ ok.granted f
      go (inr f) =
          let b : rights s x ≡ rights_b = was ∙ choose_false _ _ f in
          choose_false _ _ f ∙ (rw slot at (ok.copy (λ z. omega arith) (clean i x inside low)))

  -- a child with an entry: x was not at N, and its value stays
  stays : (k : ℕ) → k < node_limit → entry s x k ≢ none → new ≡ value s x
  unfolding installed
  stays k l h = go (decided (carries_down (slot_d s x)))
    where
      go : (carries_down (slot_d s x) ≡ true) ⊎ (carries_down (slot_d s x) ≡ false) → new ≡ value s x
      go (inl f) = absurd (h (bare i x k inside l (was ∙ choose_true _ _ f)))
      go (inr f) = choose_false _ _ f

  abbrev after : Node
  after = with_phase (with_dirty (with_value (node s x) new) false) confirm

  level : entry s (parent s x) x ≡ granted_rights (slot_d s x)
  level = levelled codes ok.agree fit.0

  own : LinkOk v (own_view s x (granted_rights (slot_d s x)) after (filled_d empty 0 (link s x))) x
  unfolding agrees installs carries_down
  own = record {
    grants = rw (awaited.0, awaited.2);
    probes = ok.probes;
    releases = rw (staying.0, staying.1);
    agree = (taken codes ok.agree fit.0 slot).0;
    exact = (taken codes ok.agree fit.0 slot).1;
    copy = λ _ _. rw slot copies;
    granted = λ h. absurd (false≢true h);
    last = λ e z. absurd (z (sym level ∙ e));
  }

  here : NodeOk v x (granted_rights (slot_d s x)) after (entry s x) (to_probe s x) (pending s x)
  unfolding choose installs
  here =
      let q = i.nodes x inside in
      record {
        root = λ e. absurd (omega arith);
        row = q.row;
        probe = λ e. clash e n.probe;
        sets = λ k l h. rw n.main at (q.sets k l h);
        apart = q.apart;
        last = λ e _. copies ∙ (rw slot at (ok.last (level ∙ e) low));
      }

  below : (k : ℕ) → Child s x k → LinkOk v (child_view s k after (entry s x k) (to_probe s x k) (pending s x k) (link s k)) k
  unfolding awaits
  below k c = below_values i c (λ h. (stays k (child_small i c) h, refl)) (rw n.main) refl refl

  pub take_grant_keeps : (t : State) → TakeGrantWrites s e x t → configuration_ok t ≡ true → Inv t v
  take_grant_keeps t w valid = own_step i inside w valid here (λ _. own) below
