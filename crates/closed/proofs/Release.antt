-- Kinds 16 to 19 give a configuration.
use mathlib.Core.Path.{◌≡◌, refl}
use mathlib.Core.Bool.{Bool, true, false}
use mathlib.Core.Logic.{◌≢◌, inr}
use Prim.Native.Nat.{ℕ}
use native.Mathlib.Omega.{arith}
use lib.Dec.{eqb}
use Rattle.words.specs.Vocab.{all, choose}
use Rattle.words.proofs.Facts.{or_right, choose_at, choose_off}
use Rattle.rules.specs.Codes.{let_go, leaving, no_child}
use Rattle.rules.specs.Cells.{rights, entry, node, link, value}
use Rattle.rules.specs.Tree.{is_child, is_leaf}
use Rattle.rules.specs.Messages.{carries_up, carries_down, is_probe_ack}
use Rattle.rules.specs.Configuration.{copy_ok, serving, evicting, work_ok, at_leaf, leaf_ok, child_ok, up_ok, down_ok, entry_ok}
use Rattle.rules.specs.Scenes.{data_taken}
use Rattle.rules.specs.Probe.{carried}
use Rattle.rules.specs.Release.{release_for}
use Rattle.rules.specs.declared.State.{State}
use Rattle.rules.specs.declared.Event.{Event}
use Rattle.writes.proofs.Seen.{dirty, noted}
use Rattle.writes.proofs.Effects.{SendReleaseWrites, TakeReleaseWrites, SendReleaseAckWrites, TakeReleaseAckWrites}
use Rattle.writes.proofs.Needs.{SendReleaseNeeds, TakeReleaseNeeds}
use Rattle.closed.proofs.Subjects.{Own, with_main, slot_c_lem, slot_d_lem}
use Rattle.closed.proofs.Fits.{Fits}
use Rattle.closed.proofs.Keeps.{Here, Kept, kept_by, own_fits, child_below, child_array, child_link, not_leaf, own_below}
use Rattle.closed.proofs.Work.{idle_main, moved, settled_own}
use Rattle.closed.proofs.Pairs.{turned_pair, child_pairs}
use Rattle.closed.proofs.Probe.{data_own}

-- a Release carries a value only with data
released_slot : (d : Bool) (v : ℕ) → up_ok (release_for d) 0 (carried d v) ≡ true
unfolding up_ok is_probe_ack carries_up release_for carried choose
released_slot true v = refl
released_slot false v = refl

module _ (s : State) (e : Event) (x : ℕ) (h : Here s x) where
  f : Fits s x
  f = own_fits h

  -- 16 | entries None at N; evict in Leaving
  pub send_release_keeps : {t : State} → SendReleaseWrites s e x t → SendReleaseNeeds s x → x ≢ 0 → Kept s t
  unfolding all copy_ok work_ok serving evicting leaf_ok at_leaf entry_ok choose
  send_release_keeps w n o =
      kept_by h w record {
        place = inr (own_below h o);
        own = record { copy = refl; main = moved f.own.main let_go leaving refl refl n.main; noted = f.own.noted; probe = f.own.probe };
        link = slot_c_lem f.link (released_slot (dirty s x) (value s x));
        pairs = λ k b. turned_pair (f.pairs k b) (rw (n.entries k b));
      }

  -- 17 | the child is noted
  pub take_release_keeps : {t : State} → TakeReleaseWrites s e x e.other t → TakeReleaseNeeds s x e.other
      → is_child s x e.other ≡ true → Kept s t
  unfolding up_ok is_probe_ack carries_up child_ok entry_ok choose
  take_release_keeps w n c =
      kept_by h w record {
        place = inr (child_below h k c);
        own = settled_own record { copy = taken.copy; main = taken.main; noted = or_right (eqb k no_child) _ c; probe = taken.probe } (not_leaf h k c) _ _;
        link = slot_c_lem (child_link h k c) refl;
        pairs = child_pairs f.pairs k c (λ j o. (choose_off j k _ _ o, choose_off j k _ _ o, refl)) (choose_at k k _ _ refl) (omega arith) refl;
      }
    where
      k : ℕ
      k = e.other

      taken : Own (is_leaf s x) (is_child s x) (rights s x) (data_taken (link s k) (node s x))
      taken = data_own f.own (child_link h k c) (entry s x k) n.data_fits_lem (f.pairs k (child_array h k c)).entry

  -- 18
  pub send_release_ack_keeps : {t : State} → SendReleaseAckWrites s e x (noted s x) t → is_child s x (noted s x) ≡ true → Kept s t
  unfolding child_ok down_ok carries_down choose
  send_release_ack_keeps w c =
      kept_by h w record {
        place = inr (child_below h _ c);
        own = record { copy = f.own.copy; main = f.own.main; noted = refl; probe = f.own.probe };
        link = slot_d_lem (child_link h _ c) refl;
        pairs = f.pairs;
      }

  -- 19 | Idle
  pub take_release_ack_keeps : {t : State} → TakeReleaseAckWrites s e x t → x ≢ 0 → Kept s t
  unfolding down_ok carries_down choose
  take_release_ack_keeps w o =
      kept_by h w record {
        place = inr (own_below h o);
        own = with_main f.own idle_main;
        link = slot_d_lem f.link refl;
        pairs = f.pairs;
      }
