-- What number 2's list says of a configuration, as far as the clauses need it.
use mathlib.Core.Path.{◌≡◌}
use mathlib.Core.Bool.{Bool, true, not, ◌&&◌, ◌||◌, beq, false≢true}
use mathlib.Core.Logic.{◌≢◌, ◌⊎◌, inl, inr}
use Prim.Native.Nat.{ℕ, ◌<◌, ◌≤◌}
use native.Mathlib.Omega.{arith}
use borrow.Author.Tests.{eqb-true, eqb-false, leb-true, not-true}
use lib.Dec.{eqb, leb}
use Rattle.words.proofs.Facts.{both, either, clash}
use Rattle.rules.specs.Codes.{levels, ups, keeps, downs, rights_n, rights_b, tip, none, trunk, no_cap, cap_n, release_data, release_ack}
use Rattle.rules.specs.Messages.{carries_up, carries_down, is_probe_ack}
use Rattle.rules.specs.Configuration.{copy_ok, probe_ok, up_ok, down_ok, entry_ok}
use Rattle.rules.specs.declared.Node.{Node}
use Rattle.rules.specs.declared.Link.{Link}
use Rattle.closed.proofs.Subjects.{Own, rights_code, Slots, Pair}

module _ {leaf : Bool} {child : ℕ → Bool} {r : ℕ} {m : Node} (o : Own leaf child r m) where
  -- only Tip is dirty
  pub dirty_tip : m.dirty ≡ true → r ≡ tip
  unfolding copy_ok
  dirty_tip d =
      let u = both _ (not (eqb r rights_b) || not m.dirty) o.copy in
      let n = both (leb r tip) (not (eqb r rights_n) || (not m.dirty && eqb m.value 0)) u.0 in
      let p : r ≢ rights_n = λ e. clash d (not-true _ (both (not m.dirty) (eqb m.value 0) (rw e at n.1)).0) in
      let q : r ≢ rights_b = λ e. clash d (not-true _ (rw e at u.1)) in
      let l : r < levels = rights_code o in
      omega arith

  -- an open probe has a cap
  pub open_cap : m.probe ≡ true → m.cap ≢ no_cap
  unfolding probe_ok
  open_cap p e = false≢true (rw (p, e) at (both (leb m.cap cap_n) (beq m.probe (not (eqb m.cap no_cap))) o.probe).1)

-- the codes of C, its kept rights and D
module _ {l : Link} (f : Slots l) where
  up_codes : (leb l.c release_data ≡ true) × (leb l.kept rights_b ≡ true)
  unfolding up_ok
  up_codes = both _ _ (both _ (is_probe_ack l.c || eqb l.kept 0) (both _ (carries_up l.c || eqb l.up 0) f.c).0).0

  pub up_code : l.c < ups
  up_code = let h : l.c ≤ release_data = leb-true _ _ up_codes.0 in omega arith

  pub kept_code : l.kept < keeps
  kept_code = let h : l.kept ≤ rights_b = leb-true _ _ up_codes.1 in omega arith

  pub down_code : l.d < downs
  unfolding down_ok
  down_code = let h : l.d ≤ release_ack = leb-true _ _ (both (leb l.d release_ack) (carries_down l.d || eqb l.down 0) f.d).0 in omega arith

-- an entry and the rights of its node
module _ {r e : ℕ} {child listed waits : Bool} (p : Pair r child e listed waits) where
  parts : ((eqb e none || not (eqb r rights_n)) ≡ true) × ((not (eqb e trunk) || eqb r tip) ≡ true)
  unfolding entry_ok
  parts = both _ _ p.entry

  pub held : e ≢ none → r ≢ rights_n
  held n = go (either _ _ parts.0)
    where
      go : (eqb e none ≡ true) ⊎ (not (eqb r rights_n) ≡ true) → r ≢ rights_n
      go (inl f) = absurd (n (eqb-true _ _ f))
      go (inr f) = eqb-false _ _ (not-true _ f)

  pub trunk_tip : e ≡ trunk → r ≡ tip
  trunk_tip f = eqb-true _ _ (rw f at parts.1)
