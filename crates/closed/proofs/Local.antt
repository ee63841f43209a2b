-- Kinds 1 to 5 give a configuration.
use mathlib.Core.Path.{◌≡◌, refl}
use mathlib.Core.Bool.{Bool, true, not, and-false, or-true}
use mathlib.Core.Logic.{inl}
use Prim.Native.Nat.{ℕ}
use native.Mathlib.Omega.{arith}
use borrow.Author.Tests.{eqb-true}
use lib.Dec.{eqb}
use Rattle.words.specs.Vocab.{choose}
use Rattle.words.proofs.Facts.{by_test}
use Rattle.rules.specs.Codes.{tip, rights_b, name_tt, idle, clear, ask, to_load, to_store, to_evict}
use Rattle.rules.specs.With.{with_phase, with_purpose}
use Rattle.rules.specs.Cells.{rights, entry, to_probe, pending, node, link}
use Rattle.rules.specs.Tree.{is_child, is_leaf}
use Rattle.rules.specs.Names.{name_of}
use Rattle.rules.specs.Configuration.{copy_ok, serving, evicting, work_ok, at_leaf, leaf_ok, has_requester}
use Rattle.rules.specs.Settle.{next_phase}
use Rattle.rules.specs.Local.{held}
use Rattle.rules.specs.declared.State.{State}
use Rattle.rules.specs.declared.Event.{Event}
use Rattle.writes.proofs.Seen.{phase, requester}
use Rattle.writes.proofs.Writes.{Writes}
use Rattle.writes.proofs.Effects.{LoadWrites, StoreWrites, LoadMissWrites, StoreMissWrites, EvictWrites}
use Rattle.writes.proofs.Needs.{StoreNeeds, LoadMissNeeds, StoreMissNeeds, EvictNeeds}
use Rattle.closed.proofs.Subjects.{Main, with_main}
use Rattle.closed.proofs.Fits.{Fits}
use Rattle.closed.proofs.Keeps.{Here, Kept, kept_by, own_fits}
use Rattle.closed.proofs.Work.{begun, settled_new}
use Rattle.closed.proofs.Pairs.{listed_pair}

-- only Tip is named TT
pub tip_named : (r : ℕ) (trunks branches : Bool) → name_of r trunks branches ≡ name_tt → r ≡ tip
unfolding name_of
tip_named r trunks branches =
    by_test (λ (n : ℕ). n ≡ name_tt → r ≡ tip) (eqb r tip) _ _ (λ e _. eqb-true r tip e) λ _.
    by_test (λ (n : ℕ). n ≡ name_tt → r ≡ tip) (eqb r rights_b) _ _ (λ _ q. absurd (omega arith)) (λ _ q. absurd (omega arith))

module _ (s : State) (e : Event) (x : ℕ) (h : Here s x) where
  f : Fits s x
  f = own_fits h

  -- 1 | nothing changes
  pub load_keeps : {t : State} → LoadWrites s e x t → Kept s t
  load_keeps w = kept_by h w record { place = inl refl; own = f.own; link = f.link; pairs = f.pairs }

  -- 2 | a node named TT has Tip, and may be dirty
  pub store_keeps : {t : State} → StoreWrites s e x t → StoreNeeds s x → Kept s t
  unfolding copy_ok
  store_keeps w n =
      kept_by h w record {
        place = inl refl;
        own = record { copy = rw (tip_named (rights s x) _ _ n.name); main = f.own.main; noted = f.own.noted; probe = f.own.probe };
        link = f.link;
        pairs = f.pairs;
      }

  -- at a leaf, Ask without a requester
  miss_keeps : {t : State} (pu : ℕ)
      → Writes s t x x (rights s x) (with_purpose (with_phase (node s x) ask) pu) (link s x) (entry s x) (to_probe s x) (pending s x)
      → work_ok ask pu ≡ true → is_leaf s x ≡ true → phase s x ≡ idle → Kept s t
  unfolding leaf_ok at_leaf choose
  miss_keeps pu w o l i =
      kept_by h w record {
        place = inl refl;
        own = with_main f.own (begun f.own.main ask pu o (or-true (not (is_leaf s x))) (rw l (and-false (has_requester pu))) i);
        link = f.link;
        pairs = f.pairs;
      }

  -- 3
  pub load_miss_keeps : {t : State} → LoadMissWrites s e x t → LoadMissNeeds s x → is_leaf s x ≡ true → Kept s t
  unfolding work_ok serving choose
  load_miss_keeps w n l = miss_keeps to_load w refl l n.quiet.main

  -- 4
  pub store_miss_keeps : {t : State} → StoreMissWrites s e x t → StoreMissNeeds s x → is_leaf s x ≡ true → Kept s t
  unfolding work_ok serving choose
  store_miss_keeps w n l = miss_keeps to_store w refl l n.quiet.main

  -- 5 | evict in Clear or LetGo
  pub evict_keeps : {t : State} → EvictWrites s e x t → EvictNeeds s x → Kept s t
  unfolding next_phase held work_ok evicting leaf_ok at_leaf has_requester choose
  evict_keeps w n =
      kept_by h w record {
        place = inl refl;
        own = with_main f.own (settled_new main _ _ _ (or-true (not (is_leaf s x))));
        link = f.link;
        pairs = λ k b. listed_pair _ (f.pairs k b) (λ e. rw e);
      }
    where
      main : Main (is_leaf s x) (is_child s x) clear to_evict (requester s x)
      main = begun f.own.main clear to_evict refl (or-true (not (is_leaf s x))) refl n.quiet.main
