-- Kinds 6 and 7 give a configuration.
use mathlib.Core.Path.{◌≡◌, refl}
use mathlib.Core.Bool.{Bool, true, false, not, ◌&&◌, and-false, or-true}
use mathlib.Core.Logic.{◌≢◌, inr}
use Prim.Native.Nat.{ℕ}
use native.Mathlib.Omega.{arith}
use borrow.Author.Tests.{leb-true, ne_eqb}
use lib.Dec.{eqb, leb}
use Rattle.words.specs.Vocab.{all, choose}
use Rattle.words.proofs.Facts.{both, or_right, differ, by_test}
use Rattle.rules.specs.Codes.{acquires, rights_n, none, name_t, clear, ask, wait, no_child, empty, acquire_u}
use Rattle.rules.specs.Tree.{is_child, is_leaf}
use Rattle.rules.specs.Configuration.{serving, evicting, work_ok, at_leaf, leaf_ok, has_requester, requester_ok, child_ok}
use Rattle.rules.specs.Acquire.{acquire_for, purpose_for, probed_for}
use Rattle.rules.specs.declared.State.{State}
use Rattle.rules.specs.declared.Event.{Event}
use Rattle.writes.proofs.Seen.{slot_a}
use Rattle.writes.proofs.Cases.{by_purpose}
use Rattle.writes.proofs.Effects.{SendAcquireWrites, TakeAcquireWrites}
use Rattle.writes.proofs.Needs.{SendAcquireNeeds, TakeAcquireNeeds}
use Rattle.closed.proofs.Tables.{Table, by_code}
use Rattle.closed.proofs.Subjects.{Main, with_main, slot_a_lem}
use Rattle.closed.proofs.Fits.{Fits}
use Rattle.closed.proofs.Keeps.{Here, Kept, kept_by, own_fits, child_below, child_link, not_leaf, own_below}
use Rattle.closed.proofs.Work.{moved, settled_new}
use Rattle.closed.proofs.Pairs.{listed_pair}

-- an Acquire has a code of slot A
acquire_code : (pu r : ℕ) → leb (acquire_for pu r) acquire_u ≡ true
unfolding acquire_for
acquire_code pu r = by_purpose InA _ pu (λ _. refl) (λ _. refl) (λ _. by_test InA (eqb r rights_n) _ _ (λ _. refl) (λ _. refl)) (λ _. refl) refl
  where
    InA : ℕ → Type 0
    InA a = leb a acquire_u ≡ true

-- it asks for a load or a store, for a requester
abbrev asks_work : ℕ → Bool
asks_work a = work_ok clear (purpose_for a) && has_requester (purpose_for a)

asked_work : Table (λ a. not (eqb a empty)) asks_work acquires
unfolding all purpose_for work_ok serving has_requester choose
asked_work = refl

acquire_asks : (a : ℕ) → leb a acquire_u ≡ true → a ≢ empty → (work_ok clear (purpose_for a) ≡ true) × (has_requester (purpose_for a) ≡ true)
acquire_asks a h n =
    let l = leb-true a acquire_u h in
    both _ (has_requester (purpose_for a)) (by_code (λ a. not (eqb a empty)) asks_work acquires asked_work a (omega arith) (differ a empty n))

-- an entry None is not probed
none_unprobed : (pu name q k : ℕ) → probed_for pu name q none k ≡ false
unfolding probed_for
none_unprobed pu name q k = by_purpose (λ (b : Bool). b ≡ false) _ pu (λ _. refl) (λ _. and-false (eqb name name_t)) (λ _. refl) (λ _. refl) refl

module _ (s : State) (e : Event) (x : ℕ) (h : Here s x) where
  f : Fits s x
  f = own_fits h

  -- 6 | from Ask to Wait
  pub send_acquire_keeps : {t : State} → SendAcquireWrites s e x t → SendAcquireNeeds s x → x ≢ 0 → Kept s t
  unfolding all work_ok serving evicting leaf_ok at_leaf choose
  send_acquire_keeps w n o =
      kept_by h w record {
        place = inr (own_below h o);
        own = with_main f.own (moved f.own.main ask wait refl refl n.main);
        link = slot_a_lem f.link (acquire_code _ _);
        pairs = f.pairs;
      }

  -- 7 | load or store for a requester, in Clear, Ask or Give
  pub take_acquire_keeps : {t : State} → TakeAcquireWrites s e x e.other t → TakeAcquireNeeds s x e.other
      → is_child s x e.other ≡ true → Kept s t
  unfolding leaf_ok at_leaf requester_ok child_ok choose
  take_acquire_keeps w n c =
      kept_by h w record {
        place = inr (child_below h k c);
        own = with_main f.own (settled_new main _ _ _ (rw (not_leaf h k c)));
        link = slot_a_lem (child_link h k c) refl;
        pairs = λ j b. listed_pair _ (f.pairs j b) (λ e. rw e (none_unprobed _ _ k j));
      }
    where
      k : ℕ
      k = e.other

      u : (work_ok clear (purpose_for (slot_a s k)) ≡ true) × (has_requester (purpose_for (slot_a s k)) ≡ true)
      u = acquire_asks (slot_a s k) (child_link h k c).a n.slot

      main : Main (is_leaf s x) (is_child s x) clear (purpose_for (slot_a s k)) k
      main = record {
        work = u.0;
        place = or-true (not (is_leaf s x));
        asked = rw (not_leaf h k c, ne_eqb k no_child (child_below h k c).below, u.1);
        named = or_right (eqb k no_child) _ c;
      }
