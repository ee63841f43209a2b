-- Kind 14, send Grant, keeps the invariant.
use mathlib.Core.Path.{◌≡◌, refl, sym, ◌∙◌, ap}
use mathlib.Core.Bool.{Bool, true, false, not, ◌&&◌, false≢true}
use mathlib.Core.Logic.{◌≢◌, ◌⊎◌, inl, inr}
use Prim.Native.Nat.{ℕ, ◌<◌}
use native.Mathlib.Decide.{ℕ_discrete}
use native.Mathlib.Omega.{arith}
use borrow.Author.Tests.{eqb-true, eqb-false, eq-eqb, ne_eqb, not-true}
use lib.Dec.{eqb}
use Rattle.words.specs.Vocab.{all, choose}
use Rattle.words.proofs.Facts.{both, either, differ, choose_true, choose_false, by_test}
use Rattle.rules.specs.Codes.{node_limit, downs, tip, none, branch, trunk, name_tt, leaving, await, to_load, to_store, empty, grant_t, grant_data_t, release_ack, shared, sole}
use Rattle.rules.specs.With.{with_phase}
use Rattle.rules.specs.Cells.{rights, entry, to_probe, pending, node, link, value}
use Rattle.rules.specs.Names.{named, readable_name, readable, no_other_entries}
use Rattle.rules.specs.Messages.{is_release, is_grant, entry_for}
use Rattle.rules.specs.Scenes.{filled_d}
use Rattle.rules.specs.Configuration.{configuration_ok}
use Rattle.rules.specs.Probe.{serves_probes}
use Rattle.rules.specs.Grant.{may_grant, grant_for, grant_value}
use Rattle.rules.specs.Release.{awaits}
use Rattle.rules.specs.declared.State.{State}
use Rattle.rules.specs.declared.Event.{Event}
use Rattle.writes.proofs.Seen.{phase, purpose, requester, slot_c, kept, slot_d, slot_e, noted}
use Rattle.writes.proofs.Cases.{by_purpose}
use Rattle.writes.proofs.Writes.{with_at}
use Rattle.writes.proofs.Effects.{SendGrantWrites}
use Rattle.writes.proofs.Needs.{others_none, SendGrantNeeds}
use Rattle.writes.proofs.Views.{view_at, child_view}
use Rattle.coherence.proofs.Invariant.Clauses.{◌⇒◌, token, owes, agrees, exactly, LinkOk, NodeOk, Inv}
use Rattle.coherence.proofs.Invariant.Frame.{child_step}
use Rattle.coherence.proofs.Invariant.Tokens.{token_at, token_in, Codes, code_at, implies2, implies3, grant_no_ack}
use Rattle.coherence.proofs.Invariant.Here.{child_small, child_ok_lem, codes_of, no_data}
use Rattle.coherence.proofs.Shared.Stays.{own_stays, below_stays}
use Rattle.coherence.proofs.Shared.Rows.{with_here, with_there}
use Rattle.coherence.proofs.Meaning.Named.{readable_untrunked, tt_is}

-- what lets the Grant d go from x to its child q
record Lets (s : State) (x q d : ℕ) : Type 0 where
  code : d < downs
  grant : is_grant d ≡ true
  untrunked : (k : ℕ) → k < node_limit → entry s x k ≢ trunk
  alone : entry_for d ≡ trunk → (rights s x ≡ tip) × ((k : ℕ) → k < node_limit → k ≢ q → entry s x k ≡ none)

-- the codes of the link: the entry, which was not Trunk, becomes what is granted
module _ {r e c k d : ℕ} (w : Codes r e c k d) (g : is_grant d ≡ true) where
  given : agrees r e c k empty ≡ true → e ≢ trunk → agrees r (entry_for d) c k d ≡ true
  unfolding all agrees
  given h n =
      implies3 _ _ _ _ (code_at (λ r e c k d. is_grant d ⇒ agrees r e c k empty ⇒ not (eqb e trunk) ⇒ agrees r (entry_for d) c k d) refl w) g h (differ _ _ n)

  given_exactly : exactly r e c k empty ≡ true → exactly r (entry_for d) c k d ≡ true
  unfolding all exactly entry_for
  given_exactly = implies2 _ _ _ (code_at (λ r e c k d. is_grant d ⇒ exactly r e c k empty ⇒ exactly r (entry_for d) c k d) refl w) g

-- the three cases of the table
module _ {s : State} {v : ℕ} (i : Inv s v) {x : ℕ} (inside : x < s.count) (q : ℕ) where
  shares : readable s x ≡ true → Lets s x q (grant_for to_load shared (entry s x q))
  unfolding grant_for choose entry_for is_grant
  shares h = record { code = omega arith; grant = refl; untrunked = readable_untrunked i x inside h; alone = λ z. absurd (omega arith) }

  leads : named s x ≡ name_tt → Lets s x q (grant_for to_load sole (entry s x q))
  unfolding grant_for choose is_grant
  leads h =
      let u = tt_is i x inside h in
      record {
        code = omega arith;
        grant = refl;
        untrunked = λ k l z. let o : entry s x k ≡ none = u.1 k l in omega arith;
        alone = λ _. (u.0, λ k l _. u.1 k l);
      }

  stores : rights s x ≡ tip → no_other_entries s x q ≡ true → entry s x q ≢ trunk → Lets s x q (grant_for to_store sole (entry s x q))
  unfolding grant_for choose is_grant
  stores t o z =
      by_test (Lets s x q) (eqb (entry s x q) branch) grant_t grant_data_t
      (λ _. record { code = omega arith; grant = refl; untrunked = λ k l. at k l (ℕ_discrete k q); alone = λ _. (t, others_none s x q o) })
      (λ _. record { code = omega arith; grant = refl; untrunked = λ k l. at k l (ℕ_discrete k q); alone = λ _. (t, others_none s x q o) })
    where
      at : (k : ℕ) → k < node_limit → Dec (k ≡ q) → entry s x k ≢ trunk
      at k l (yes w) t = z (ap (entry s x) (sym w) ∙ t)
      at k l (no w) t = let p : entry s x k ≡ none = others_none s x q o k l w in omega arith

  lets : (pu choice : ℕ) → may_grant pu choice (named s x) (rights s x) (no_other_entries s x q) (entry s x q) ≡ true → Lets s x q (grant_for pu choice (entry s x q))
  unfolding may_grant
  lets pu choice =
      by_purpose (λ (b : Bool). b ≡ true → Lets s x q (grant_for pu choice (entry s x q))) _ pu (λ _ h. absurd (false≢true h))
      (λ e h. rw e (load (either _ _ h))) (λ e h. rw e (store h)) (λ _ h. absurd (false≢true h)) (λ h. absurd (false≢true h))
    where
      load : ((eqb choice shared && readable_name (named s x)) ≡ true) ⊎ ((eqb choice sole && eqb (named s x) name_tt) ≡ true) → Lets s x q (grant_for to_load choice (entry s x q))
      load (inl h) = let u = both (eqb choice shared) (readable_name (named s x)) h in rw (eqb-true choice shared u.0) (shares u.1)
      load (inr h) = let u = both (eqb choice sole) (eqb (named s x) name_tt) h in rw (eqb-true choice sole u.0) (leads (eqb-true _ _ u.1))

      store : (eqb choice sole && eqb (rights s x) tip && no_other_entries s x q && not (eqb (entry s x q) trunk)) ≡ true → Lets s x q (grant_for to_store choice (entry s x q))
      store h =
          let u = both (eqb choice sole && eqb (rights s x) tip && no_other_entries s x q) (not (eqb (entry s x q) trunk)) h in
          let w = both (eqb choice sole && eqb (rights s x) tip) (no_other_entries s x q) u.0 in
          let y = both (eqb choice sole) (eqb (rights s x) tip) w.0 in
          rw (eqb-true choice sole y.0) (stores (eqb-true _ _ y.1) w.1 (eqb-false _ _ (not-true _ u.1)))

module _ {s : State} {v : ℕ} (i : Inv s v) (e : Event) {x : ℕ} (inside : x < s.count) (n : SendGrantNeeds s x e.other) where
  -- the requester, and what is granted to it
  abbrev q : ℕ
  q = requester s x

  abbrev d : ℕ
  d = grant_for (purpose s x) e.other (entry s x q)

  may : Lets s x q d
  may = lets i inside q (purpose s x) e.other n.may

  -- its link before
  ok : LinkOk v (view_at s x q) q
  ok = child_ok_lem i n.child

  codes : Codes (rights s q) (entry s x q) (slot_c s q) (kept s q) d
  codes = let w = codes_of i n.child in record { rights = w.rights; entry = w.entry; up = w.up; kept = w.kept; down = may.code }

  untrunked : entry s x q ≢ trunk
  untrunked = may.untrunked q (child_small i n.child)

  -- the Grant and the wait for its GrantAck appear together
  unowed : (is_grant (slot_d s q) ≡ false) × (owes (node s q) ≡ false) × (not (eqb (slot_e s q) empty) ≡ false)
  unfolding awaits
  unowed = token_in (token_at _ _ _ _ (rw n.main at ok.grants)) refl

  holds : rights s x ≡ tip → value s x ≡ v
  holds t = (i.nodes x inside).last t may.untrunked

  acted : LinkOk v (child_view s q (with_phase (node s x) await) (entry_for d) (to_probe s x q) (pending s x q) (filled_d d (grant_value d (value s x)) (link s q))) q
  unfolding grant_value awaits
  acted = record {
    grants = rw (eq-eqb q q refl, may.grant, unowed.1, unowed.2);
    probes = ok.probes;
    releases = releases;
    agree = given codes may.grant (rw n.slot at ok.agree) untrunked;
    exact = given_exactly codes may.grant (rw n.slot at ok.exact);
    copy = ok.copy;
    granted = λ h. choose_true _ _ h;
    last = λ e _. choose_false _ _ (no_data i n.child untrunked) ∙ holds (may.alone e).0;
  }
    where
      releases : token (eqb (phase s q) leaving) (is_release (slot_c s q)) (eqb (noted s x) q) (eqb d release_ack) ≡ true
      releases = rw (grant_no_ack may.code may.grant) (rw n.slot at ok.releases)

  -- no other child is awaited, before and after
  awaited : (k : ℕ) → k ≢ q → awaits await q k ≡ awaits (phase s x) q k
  unfolding awaits
  awaited k o = rw (n.main, ne_eqb q k (λ e. o (sym e)))

  abbrev row : ℕ → ℕ
  row = with_at (entry s x) q (entry_for d)

  row_q : row q ≡ entry_for d
  row_q = with_here (entry s x) q (entry_for d)

  row_other : (k : ℕ) → k ≢ q → row k ≡ entry s x k
  row_other = with_there (entry s x) q (entry_for d)

  here : NodeOk v x (rights s x) (with_phase (node s x) await) row (to_probe s x) (pending s x)
  unfolding serves_probes choose
  here =
      let w = i.nodes x inside in
      record {
        root = w.root;
        row = λ a b la lb o e. rows a b la lb o e (ℕ_discrete a q);
        probe = λ e. rw n.main at (w.probe e);
        sets = λ k l h. rw n.main at (w.sets k l h);
        apart = w.apart;
        last = λ t _. holds t;
      }
    where
      rows : (a b : ℕ) → a < node_limit → b < node_limit → a ≢ b → row a ≡ trunk → Dec (a ≡ q) → row b ≡ none
      rows a b la lb o e (yes f) =
          let g : b ≢ q = λ z. o (f ∙ sym z) in
          row_other b g ∙ (may.alone (sym row_q ∙ (ap row (sym f) ∙ e))).1 b lb g
      rows a b la lb o e (no f) = absurd (may.untrunked a la (sym (row_other a f) ∙ e))

  pub send_grant_keeps : (t : State) → SendGrantWrites s e x q t → configuration_ok t ≡ true → Inv t v
  send_grant_keeps t w valid =
      child_step i inside n.child w valid here (λ pos. own_stays i inside pos refl refl (rw n.main) refl (rw n.main))
      (rw row_q acted)
      (λ k c o. rw (row_other k o) (below_stays i c refl (awaited k o) refl refl))
