-- Kind 17, take Release, keeps the invariant.
use mathlib.Core.Path.{◌≡◌, refl, sym, ◌∙◌, ap}
use mathlib.Core.Bool.{true, false, not, ◌&&◌}
use mathlib.Core.Logic.{◌≢◌}
use Prim.Native.Nat.{ℕ, ◌<◌}
use native.Mathlib.Omega.{arith}
use borrow.Author.Tests.{eqb-false, not-true, eq-eqb, ne_eqb}
use lib.Dec.{eqb}
use Rattle.words.specs.Vocab.{all}
use Rattle.words.proofs.Facts.{both}
use Rattle.rules.specs.Codes.{tip, none, leaving, empty, release_ack}
use Rattle.rules.specs.With.{with_release}
use Rattle.rules.specs.Cells.{to_probe, pending, node, link, rights}
use Rattle.rules.specs.Messages.{is_release, is_grant}
use Rattle.rules.specs.Configuration.{configuration_ok}
use Rattle.rules.specs.declared.State.{State}
use Rattle.rules.specs.declared.Node.{Node}
use Rattle.rules.specs.declared.Event.{Event}
use Rattle.writes.proofs.Seen.{phase, probing, noted, slot_b, slot_d}
use Rattle.writes.proofs.Writes.{with_at}
use Rattle.writes.proofs.Effects.{TakeReleaseWrites}
use Rattle.writes.proofs.Needs.{Child, TakeReleaseNeeds}
use Rattle.writes.proofs.Views.{view_at}
use Rattle.coherence.proofs.Invariant.Clauses.{◌⇒◌, token, agrees, exactly, LinkOk, Inv}
use Rattle.coherence.proofs.Invariant.Tokens.{token_at, token_in, token_first, Codes, code_at, implies3, release_ack_lem}
use Rattle.coherence.proofs.Invariant.Here.{child_ok_lem, codes_of}
use Rattle.coherence.proofs.Shared.Rows.{less_none, less_one}
use Rattle.coherence.proofs.Shared.DataTaken.{taken_is, taken_keeps}

-- the codes of the link: the child that let go has nothing, and so the entry None is right
gone : {r e c k d : ℕ} → Codes r e c k d → agrees r e c k d ≡ true → is_release c ≡ true → is_grant d ≡ false → (agrees r none empty 0 d ≡ true) × (not (eqb r tip) ≡ true)
unfolding all agrees
gone {r} {d = d} w h a g =
    both (agrees r none empty 0 d) (not (eqb r tip))
    (implies3 _ _ _ _ (code_at (λ r e c k d. agrees r e c k d ⇒ is_release c ⇒ not (is_grant d) ⇒ (agrees r none empty 0 d && not (eqb r tip))) refl w) h a (ap not g))

-- e names the child k
module _ {s : State} {v : ℕ} (i : Inv s v) (e : Event) {x : ℕ} (inside : x < s.count) (child : Child s x e.other) (n : TakeReleaseNeeds s x e.other) where
  abbrev k : ℕ
  k = e.other

  ok : LinkOk v (view_at s x k) k
  ok = child_ok_lem i child

  -- x does not await k
  ungranted : is_grant (slot_d s k) ≡ false
  ungranted = (token_in (token_at _ _ _ _ ok.grants) n.main).0

  exact : exactly (rights s k) none empty 0 (slot_d s k) ≡ true
  unfolding exactly
  exact = rw ungranted

  probes : token (pending s x k) (not (eqb (slot_b s k) empty)) (probing s k) false ≡ true
  probes = rw (release_ack_lem (codes_of i child).up n.slot) at ok.probes

  -- the Release was the token, and k is noted in its place
  alone : (eqb (phase s k) leaving ≡ true) × (eqb (noted s x) k ≡ false) × (eqb (slot_d s k) release_ack ≡ false)
  alone = token_first (token_at _ _ _ _ ok.releases) n.slot

  releases : token (eqb (phase s k) leaving) false (eqb k k) (eqb (slot_d s k) release_ack) ≡ true
  releases = rw (alone.0, eq-eqb k k refl, alone.2)

  -- no other child was noted, and none is
  quiet : (j : ℕ) → Child s x j → j ≢ k → eqb k j ≡ eqb (noted s x) j
  quiet j c o = ne_eqb k j (λ e. o (sym e)) ∙ sym (ne_eqb (noted s x) j (λ e. c.below (sym e ∙ n.release)))

  pub take_release_keeps : (t : State) → TakeReleaseWrites s e x k t → configuration_ok t ≡ true → Inv t v
  take_release_keeps t w =
      let f = gone (codes_of i child) ok.agree n.slot ungranted in
      taken_keeps i inside child none k (with_at (to_probe s x) k false) (pending s x)
      n.data_fits_lem (λ z. omega arith) (omega arith) (eqb-false _ _ (not-true _ f.1)) ungranted
      (less_one (to_probe s x) k) (less_none (pending s x) k) quiet
      _ (ap (λ (m : Node). with_release m k) (taken_is (link s k) (node s x))) w probes releases f.0 exact
