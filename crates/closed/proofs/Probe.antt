-- Kinds 8 to 11 give a configuration.
use mathlib.Core.Path.{◌≡◌, refl}
use mathlib.Core.Bool.{Bool, true, false, not, ◌&&◌, ◌||◌}
use mathlib.Core.Logic.{◌≢◌, inr}
use Prim.Native.Nat.{ℕ, ◌<◌}
use native.Mathlib.Omega.{arith}
use borrow.Author.Tests.{leb-true, le-leb, eqb-true, ne_eqb, not-true}
use lib.Dec.{eqb, leb}
use Rattle.words.specs.Vocab.{all, choose}
use Rattle.words.proofs.Facts.{both, and_true, clash, differ, implies, all_at, by_test, choose_at, choose_off}
use Rattle.rules.specs.Codes.{levels, ups, rights_n, rights_b, tip, none, trunk, cap_b, cap_n, empty, probe_n, release_data}
use Rattle.rules.specs.Cells.{rights, entry, to_probe, pending, value}
use Rattle.rules.specs.Tree.{is_child}
use Rattle.rules.specs.Messages.{carries_up, installs, from_trunk, is_probe_ack}
use Rattle.rules.specs.Configuration.{copy_ok, probe_ok, up_ok, entry_ok}
use Rattle.rules.specs.Scenes.{value_at, data_taken}
use Rattle.rules.specs.Probe.{cap_for, probed_by, cap_met, cap_rights, fallen, carried, probe_ack_for, data_fits}
use Rattle.rules.specs.declared.State.{State}
use Rattle.rules.specs.declared.Node.{Node}
use Rattle.rules.specs.declared.Link.{Link}
use Rattle.rules.specs.declared.Event.{Event}
use Rattle.writes.proofs.Seen.{dirty, cap, kept, slot_b}
use Rattle.writes.proofs.Cases.{by_purpose, by_cap}
use Rattle.writes.proofs.Effects.{SendProbeWrites, TakeProbeWrites, SendProbeAckWrites, TakeProbeAckWrites}
use Rattle.writes.proofs.Needs.{TakeProbeNeeds, SendProbeAckNeeds, TakeProbeAckNeeds, all_none, no_entry}
use Rattle.closed.proofs.Tables.{Table, by_code, Table2, by_two}
use Rattle.closed.proofs.Subjects.{Own, rights_code, cap_code, Slots, Pair, entry_code, slot_b_lem, slot_c_lem}
use Rattle.closed.proofs.Fits.{Fits}
use Rattle.closed.proofs.Keeps.{Here, Kept, kept_by, own_fits, child_below, child_array, child_link, not_leaf, own_below}
use Rattle.closed.proofs.Work.{settled_own}
use Rattle.closed.proofs.Pairs.{listed_pair, turned_pair, fallen_entry, child_pairs}

-- a Probe has a code of slot B
probe_code : (o : Bool) (c pu : ℕ) → leb c cap_n ≡ true → leb (cap_for o c pu) probe_n ≡ true
unfolding cap_for
probe_code o c pu h = by_test InB o _ _ (λ _. h) λ _. by_purpose InB _ pu (λ _. refl) (λ _. refl) (λ _. refl) (λ _. refl) refl
  where
    InB : ℕ → Type 0
    InB b = leb b probe_n ≡ true

-- an entry None is not probed
none_unprobed : (c : ℕ) → probed_by c none ≡ false
unfolding probed_by
none_unprobed c = by_cap (λ (b : Bool). b ≡ false) _ c (λ _. refl) (λ _. refl) (λ _. refl) refl

-- the rights that a ProbeAck leaves are those that it may keep
kept_code : (c r : ℕ) → leb (fallen c r) rights_b ≡ true
unfolding fallen cap_rights
kept_code c r =
    by_test Low (leb r (cap_rights c)) r (cap_rights c)
    (λ t. let a = leb-true r (cap_rights c) t in let b = leb-true (cap_rights c) rights_b low in le-leb r rights_b (omega arith))
    (λ _. low)
  where
    Low : ℕ → Type 0
    Low k = leb k rights_b ≡ true

    low : Low (cap_rights c)
    low = by_cap Low _ c (λ _. refl) (λ _. refl) (λ _. refl) refl

-- "Rights N always set value 0 and clean."
clean_copy : (r v : ℕ) → r < levels → copy_ok r false (value_at r v) ≡ true
unfolding all copy_ok value_at choose
clean_copy r v h = all_at (λ r. copy_ok r false (value_at r v)) levels r refl h

-- a ProbeAck carries a value only with data
acked_slot : (d : Bool) (k v : ℕ) → leb k rights_b ≡ true → up_ok (probe_ack_for d) k (carried d v) ≡ true
unfolding up_ok is_probe_ack carries_up probe_ack_for carried choose
acked_slot true k v h = rw h
acked_slot false k v h = rw h

-- without a Trunk entry the rights may fall to B
abbrev no_trunk : ℕ → ℕ → Bool
no_trunk r e = entry_ok r e && not (eqb e trunk)

falls_to_b : Table2 no_trunk (λ r e. entry_ok (fallen cap_b r) e) levels levels
unfolding all entry_ok fallen cap_rights choose
falls_to_b = refl

-- the entries fit the rights that the cap leaves
met_entry : (c r e : ℕ) (bare someTrunk : Bool) → r < levels → e < levels → cap_met c bare someTrunk ≡ true
    → (bare ≡ true → e ≡ none) → (someTrunk ≡ false → e ≢ trunk) → entry_ok r e ≡ true → entry_ok (fallen c r) e ≡ true
unfolding cap_met entry_ok
met_entry c r e bare someTrunk hr he met a t h =
    by_cap (λ (b : Bool). b ≡ true → entry_ok (fallen c r) e ≡ true) _ c (λ _ m. clash m refl)
    (λ q m. rw q (by_two no_trunk (λ r e. entry_ok (fallen cap_b r) e) levels levels falls_to_b r e hr he
    (and_true _ _ h (differ e trunk (t (not-true someTrunk m))))))
    (λ _ m. rw (a m)) (λ m. clash m refl) met

-- what the parent installs comes only from a Trunk entry, so a node that takes it has Tip and may be dirty
installs_trunk : Table installs from_trunk ups
unfolding all installs from_trunk choose
installs_trunk = refl

up_code : {l : Link} → Slots l → l.c < ups
unfolding up_ok
up_code {l} f =
    let u = both (leb l.c release_data && leb l.kept rights_b && (is_probe_ack l.c || eqb l.kept 0)) _ f.c in
    let w = leb-true l.c release_data (both (leb l.c release_data) _ (both (leb l.c release_data && leb l.kept rights_b) _ u.0).0).0 in
    omega arith

pub data_own : {leaf : Bool} {child : ℕ → Bool} {r : ℕ} {m : Node} {l : Link} → Own leaf child r m → Slots l
    → (e : ℕ) → data_fits l.c e ≡ true → entry_ok r e ≡ true → Own leaf child r (data_taken l m)
unfolding data_taken data_fits copy_ok entry_ok
data_own {leaf} {child} {r} {m} {l} o f e d h =
    by_test (λ (u : Node). Own leaf child r u) (installs l.c) _ m
    (λ t. record { copy = rw (sole t); main = o.main; noted = o.noted; probe = o.probe })
    (λ _. o)
  where
    sole : installs l.c ≡ true → r ≡ tip
    sole t =
        let q : e ≡ trunk = eqb-true e trunk (implies (from_trunk l.c) _ d (by_code installs from_trunk ups installs_trunk l.c (up_code f) t)) in
        eqb-true r tip (both (not (eqb r rights_n)) (eqb r tip) (rw q at h)).1

module _ (s : State) (e : Event) (x : ℕ) (h : Here s x) where
  f : Fits s x
  f = own_fits h

  -- 9 | the cap is in its list
  pub take_probe_keeps : {t : State} → TakeProbeWrites s e x t → TakeProbeNeeds s x → x ≢ 0 → Kept s t
  unfolding probe_ok
  take_probe_keeps w n o =
      kept_by h w record {
        place = inr (own_below h o);
        own = record { copy = f.own.copy; main = f.own.main; noted = f.own.noted; probe = opened };
        link = slot_b_lem f.link refl;
        pairs = λ k b. listed_pair _ (f.pairs k b) (λ e. rw e (none_unprobed (slot_b s x)));
      }
    where
      opened : probe_ok true (slot_b s x) ≡ true
      opened = rw (ne_eqb (slot_b s x) empty n.slot) (and_true _ _ f.link.b refl)

  -- 10 | the entries fit the new rights by the needs; N and B are clean, N has the value 0
  pub send_probe_ack_keeps : {t : State} → SendProbeAckWrites s e x t → SendProbeAckNeeds s x → x ≢ 0 → Kept s t
  unfolding probe_ok
  send_probe_ack_keeps w n o =
      kept_by h w record {
        place = inr (own_below h o);
        own = record { copy = clean_copy r' _ low; main = f.own.main; noted = f.own.noted; probe = refl };
        link = slot_c_lem f.link (acked_slot (dirty s x) r' (value s x) (kept_code _ _));
        pairs = λ k b.
            turned_pair (f.pairs k b)
            (met_entry (cap s x) (rights s x) (entry s x k) _ _ (rights_code f.own) (entry_code (f.pairs k b)) n.met
            (λ e. all_none s x e k b) (λ e. no_entry s x trunk e k b) (f.pairs k b).entry);
      }
    where
      r' : ℕ
      r' = fallen (cap s x) (rights s x)

      low : r' < levels
      low = let l = leb-true r' rights_b (kept_code _ _) in omega arith

  module _ (k : ℕ) (c : is_child s x k ≡ true) where
    p : Pair (rights s x) (is_child s x k) (entry s x k) (to_probe s x k) (pending s x k)
    p = f.pairs k (child_array h k c)

    -- 8
    pub send_probe_keeps : {t : State} → SendProbeWrites s e x k t → Kept s t
    send_probe_keeps w =
        kept_by h w record {
          place = inr (child_below h k c);
          own = f.own;
          link = slot_b_lem (child_link h k c) (probe_code _ _ _ (cap_code f.own));
          pairs = child_pairs f.pairs k c (λ j o. (refl, choose_off j k _ _ o, choose_off j k _ _ o)) refl (entry_code p) p.entry;
        }

    -- 11 | kept is not above the entry
    pub take_probe_ack_keeps : {t : State} → TakeProbeAckWrites s e x k t → TakeProbeAckNeeds s x k → Kept s t
    unfolding up_ok is_probe_ack carries_up choose
    take_probe_ack_keeps w n =
        kept_by h w record {
          place = inr (child_below h k c);
          own = settled_own (data_own f.own (child_link h k c) (entry s x k) n.data_fits_lem p.entry) (not_leaf h k c) _ _;
          link = slot_c_lem (child_link h k c) refl;
          pairs = child_pairs f.pairs k c (λ j o. (choose_off j k _ _ o, refl, choose_off j k _ _ o)) (choose_at k k _ _ refl)
              (let b = entry_code p in let d = n.kept in omega arith) (fallen_entry p (rights_code f.own) (kept s k) n.kept);
        }
