-- Kinds 12 to 15 give a configuration.
use mathlib.Core.Path.{◌≡◌, refl}
use mathlib.Core.Bool.{Bool, true, false, not, ◌&&◌}
use mathlib.Core.Logic.{◌≢◌, ◌⊎◌, inl, inr}
use Prim.Native.Nat.{ℕ, ◌<◌, ◌≤◌}
use native.Mathlib.Omega.{arith}
use borrow.Author.Tests.{eqb-true, ne_eqb}
use lib.Dec.{eqb}
use Rattle.words.specs.Vocab.{all, choose}
use Rattle.words.proofs.Facts.{both, either, clash, by_test, choose_at, choose_off}
use Rattle.rules.specs.Codes.{levels, rights_n, rights_b, tip, branch, trunk, name_tt, wait, confirm, give, await, to_load, grant_t, grant_data_t, shared, sole}
use Rattle.rules.specs.With.{with_phase}
use Rattle.rules.specs.Cells.{rights, value}
use Rattle.rules.specs.Tree.{is_child}
use Rattle.rules.specs.Names.{name_of, readable_name}
use Rattle.rules.specs.Messages.{carries_down, granted_rights, entry_for}
use Rattle.rules.specs.Configuration.{copy_ok, serving, evicting, work_ok, at_leaf, leaf_ok, down_ok, entry_ok}
use Rattle.rules.specs.Scenes.{installed, idled}
use Rattle.rules.specs.Grant.{grant_fits, confirmed, may_grant, grant_for, grant_value}
use Rattle.rules.specs.declared.State.{State}
use Rattle.rules.specs.declared.Node.{Node}
use Rattle.rules.specs.declared.Event.{Event}
use Rattle.writes.proofs.Seen.{purpose, requester, slot_d, down}
use Rattle.writes.proofs.Cases.{by_purpose, by_down}
use Rattle.writes.proofs.Effects.{TakeGrantWrites, SendGrantAckWrites, SendGrantWrites, TakeGrantAckWrites}
use Rattle.writes.proofs.Needs.{TakeGrantNeeds, SendGrantAckNeeds, SendGrantNeeds}
use Rattle.closed.proofs.Subjects.{Own, rights_code, with_main, slot_d_lem, slot_e_lem}
use Rattle.closed.proofs.Fits.{Fits}
use Rattle.closed.proofs.Keeps.{Here, Kept, kept_by, own_fits, child_below, child_link, own_below}
use Rattle.closed.proofs.Work.{idle_main, moved}
use Rattle.closed.proofs.Pairs.{risen_pair, child_pairs}
use Rattle.closed.proofs.Local.{tip_named}

-- a Grant is taken at N or B
fits_low : (pu r d : ℕ) → grant_fits pu r d ≡ true → r ≤ rights_b
unfolding grant_fits
fits_low pu r d =
    by_purpose (λ (b : Bool). b ≡ true → r ≤ rights_b) _ pu (λ _ h. clash h refl)
    (λ _ h. let q = eqb-true r rights_n (both _ _ h).0 in omega arith)
    (λ _ h. store (either _ _ h)) (λ _ h. clash h refl) (λ h. clash h refl)
  where
    store : ((eqb r rights_b && eqb d grant_t) ≡ true) ⊎ ((eqb r rights_n && eqb d grant_data_t) ≡ true) → r ≤ rights_b
    store (inl u) = let q = eqb-true r rights_b (both _ (eqb d grant_t) u).0 in omega arith
    store (inr u) = let q = eqb-true r rights_n (both _ (eqb d grant_data_t) u).0 in omega arith

-- and leaves B or Tip
granted : (P : ℕ → Type 0) (d : ℕ) → P rights_b → P tip → P (granted_rights d)
unfolding granted_rights
granted P d b t = by_down P _ d (λ _. t) (λ _. t) (λ _. t) (λ _. b) (λ _. t) t

-- a leaf that has confirmed is Idle, another gives
confirmed_own : (leaf : Bool) (child : ℕ → Bool) (r : ℕ) (m : Node) → m.phase ≡ confirm → Own leaf child r m → Own leaf child r (confirmed leaf m)
unfolding confirmed all work_ok serving evicting leaf_ok choose
confirmed_own leaf child r m e o =
    by_test (λ (u : Node). Own leaf child r u) leaf (idled m) (with_phase m give)
    (λ _. with_main o idle_main)
    (λ l. with_main o (moved o.main confirm give refl (rw l) e))

-- a Grant has a code of slot D, and a value only with data
granted_slot : (pu choice e v : ℕ) → down_ok (grant_for pu choice e) (grant_value (grant_for pu choice e) v) ≡ true
unfolding grant_for grant_value down_ok carries_down choose
granted_slot pu choice e v =
    by_purpose InD _ pu (λ _. refl) (λ _. by_test InD (eqb choice shared) _ _ (λ _. refl) (λ _. refl))
    (λ _. by_test InD (eqb e branch) _ _ (λ _. refl) (λ _. refl)) (λ _. refl) refl
  where
    InD : ℕ → Type 0
    InD d = down_ok d (grant_value d v) ≡ true

-- the entry that a Grant leaves
entry_for_lem : (P : ℕ → Type 0) (d : ℕ) → P branch → P trunk → P (entry_for d)
unfolding entry_for
entry_for_lem P d b t = by_down P _ d (λ _. t) (λ _. t) (λ _. t) (λ _. b) (λ _. t) t

-- N is not readable
readable_rights : (r : ℕ) (trunks branches : Bool) → readable_name (name_of r trunks branches) ≡ true → r ≢ rights_n
unfolding name_of choose
readable_rights r trunks branches h e = clash (rw e at h) refl

-- a shared Grant leaves Branch
lent_entry : (r e : ℕ) → r ≢ rights_n → entry_ok r (entry_for (grant_for to_load shared e)) ≡ true
unfolding grant_for entry_for entry_ok choose
lent_entry r e n = rw (ne_eqb r rights_n n)

-- Branch at B or Tip, Trunk at Tip
may_entry : (pu choice r e : ℕ) (trunks branches alone : Bool) → may_grant pu choice (name_of r trunks branches) r alone e ≡ true
    → entry_ok r (entry_for (grant_for pu choice e)) ≡ true
unfolding may_grant entry_ok
may_entry pu choice r e trunks branches alone =
    by_purpose (λ (b : Bool). b ≡ true → entry_ok r (entry_for (grant_for pu choice e)) ≡ true) _ pu (λ _ h. clash h refl)
    (λ q h. load q (either _ _ h))
    (λ _ h. at_tip (eqb-true r tip (both (eqb choice sole) _ (both (eqb choice sole && eqb r tip) alone (both _ (not (eqb e trunk)) h).0).0).1))
    (λ _ h. clash h refl) (λ h. clash h refl)
  where
    at_tip : r ≡ tip → entry_ok r (entry_for (grant_for pu choice e)) ≡ true
    at_tip q = rw q (entry_for_lem (λ (u : ℕ). entry_ok tip u ≡ true) _ refl refl)

    load : pu ≡ to_load
        → ((eqb choice shared && readable_name (name_of r trunks branches)) ≡ true) ⊎ ((eqb choice sole && eqb (name_of r trunks branches) name_tt) ≡ true)
        → entry_ok r (entry_for (grant_for pu choice e)) ≡ true
    load q (inl u) =
        let v = both (eqb choice shared) _ u in
        rw (q, eqb-true choice shared v.0) (lent_entry r e (readable_rights r trunks branches v.1))
    load q (inr u) = at_tip (tip_named r trunks branches (eqb-true _ name_tt (both (eqb choice sole) _ u).1))

module _ (s : State) (e : Event) (x : ℕ) (h : Here s x) where
  f : Fits s x
  f = own_fits h

  -- 12 | the rights rise
  pub take_grant_keeps : {t : State} → TakeGrantWrites s e x t → TakeGrantNeeds s x → x ≢ 0 → Kept s t
  unfolding all copy_ok work_ok serving evicting leaf_ok at_leaf down_ok carries_down choose
  take_grant_keeps w n o =
      kept_by h w record {
        place = inr (own_below h o);
        own = record {
          copy = granted (λ (r : ℕ). copy_ok r false (installed (slot_d s x) (down s x) (value s x)) ≡ true) _ refl refl;
          main = moved f.own.main wait confirm refl refl n.main;
          noted = f.own.noted;
          probe = f.own.probe;
        };
        link = slot_d_lem f.link refl;
        pairs = λ k b.
            risen_pair (f.pairs k b) (rights_code f.own) _ (granted (λ (r : ℕ). r < levels) _ (omega arith) (omega arith))
            (granted (λ (r : ℕ). rights s x ≤ r) _ low (omega (arith, low)));
      }
    where
      low : rights s x ≤ rights_b
      low = fits_low (purpose s x) (rights s x) (slot_d s x) n.fits

  -- 13 | a leaf goes Idle, another Give
  pub send_grant_ack_keeps : {t : State} → SendGrantAckWrites s e x t → SendGrantAckNeeds s x → x ≢ 0 → Kept s t
  send_grant_ack_keeps w n o =
      kept_by h w record {
        place = inr (own_below h o);
        own = confirmed_own _ _ _ _ n.main f.own;
        link = slot_e_lem f.link refl;
        pairs = f.pairs;
      }

  module _ (c : is_child s x (requester s x) ≡ true) where
    -- 14 | from Give to Await; Branch at B or Tip, Trunk at Tip
    pub send_grant_keeps : {t : State} → SendGrantWrites s e x (requester s x) t → SendGrantNeeds s x e.other → Kept s t
    unfolding all work_ok serving evicting leaf_ok at_leaf choose
    send_grant_keeps w n =
        kept_by h w record {
          place = inr (child_below h _ c);
          own = with_main f.own (moved f.own.main give await refl refl n.main);
          link = slot_d_lem (child_link h _ c) (granted_slot _ _ _ _);
          pairs = child_pairs f.pairs _ c (λ j o. (choose_off j _ _ _ o, refl, refl)) (choose_at (requester s x) _ _ _ refl)
              (entry_for_lem (λ (e : ℕ). e < levels) _ (omega arith) (omega arith)) (may_entry _ _ _ _ _ _ _ n.may);
        }

    -- 15 | Idle
    pub take_grant_ack_keeps : {t : State} → TakeGrantAckWrites s e x (requester s x) t → Kept s t
    take_grant_ack_keeps w =
        kept_by h w record {
          place = inr (child_below h _ c);
          own = with_main f.own idle_main;
          link = slot_e_lem (child_link h _ c) refl;
          pairs = f.pairs;
        }
