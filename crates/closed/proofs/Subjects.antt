-- Number 2 by its subjects, as facts: a node's copy of the line and its three transactions, a link's slots, an entry with its set
-- members. A step changes a few of these parts, and the others stand.
use mathlib.Core.Path.{◌≡◌}
use mathlib.Core.Bool.{Bool, true, not, ◌&&◌, ◌||◌}
use Prim.Native.Nat.{ℕ, ◌<◌}
use native.Mathlib.Omega.{arith}
use borrow.Author.Tests.{leb-true}
use lib.Dec.{eqb, leb}
use Rattle.words.proofs.Facts.{both, and_true}
use Rattle.rules.specs.Codes.{levels, rights_n, tip, none, trunk, cap_n, acquire_u, probe_n, grant_ack}
use Rattle.rules.specs.With.{with_phase, with_purpose, with_requester, with_a, with_b, with_e}
use Rattle.rules.specs.Configuration.{copy_ok, work_ok, leaf_ok, requester_ok, child_ok, probe_ok, node_ok, up_ok, down_ok, link_ok, member_ok, entry_ok, pair_ok}
use Rattle.rules.specs.Scenes.{filled_c, filled_d}
use Rattle.rules.specs.declared.Node.{Node}
use Rattle.rules.specs.declared.Link.{Link}

-- the main transaction, at a leaf or not, with the children that the node has
pub record Main (leaf : Bool) (child : ℕ → Bool) (ph pu q : ℕ) : Type 0 where
  pub work : work_ok ph pu ≡ true
  pub place : leaf_ok leaf ph ≡ true
  pub asked : requester_ok leaf pu q ≡ true
  pub named : child_ok q (child q) ≡ true

-- all that number 2 asks of the rights r and the fields m of a node
pub record Own (leaf : Bool) (child : ℕ → Bool) (r : ℕ) (m : Node) : Type 0 where
  pub copy : copy_ok r m.dirty m.value ≡ true
  pub main : Main leaf child m.phase m.purpose m.requester
  pub noted : child_ok m.release (child m.release) ≡ true
  pub probe : probe_ok m.probe m.cap ≡ true

module _ (leaf : Bool) (child : ℕ → Bool) (r : ℕ) (m : Node) where
  pub own : node_ok leaf (child m.requester) (child m.release) r m ≡ true → Own leaf child r m
  unfolding node_ok
  own h =
      let a = both _ (probe_ok m.probe m.cap) h in
      let b = both _ (child_ok m.release (child m.release)) a.0 in
      let c = both _ (child_ok m.requester (child m.requester)) b.0 in
      let d = both _ (requester_ok leaf m.purpose m.requester) c.0 in
      let e = both _ (leaf_ok leaf m.phase) d.0 in
      let f = both (copy_ok r m.dirty m.value) (work_ok m.phase m.purpose) e.0 in
      record { copy = f.0; main = record { work = f.1; place = e.1; asked = d.1; named = c.1 }; noted = b.1; probe = a.1 }

  pub own_ok : Own leaf child r m → node_ok leaf (child m.requester) (child m.release) r m ≡ true
  unfolding node_ok
  own_ok o =
      and_true _ _
      (and_true _ _ (and_true _ _ (and_true _ _ (and_true _ _ (and_true _ _ o.copy o.main.work) o.main.place) o.main.asked) o.main.named) o.noted)
      o.probe

-- another main transaction in the same node
pub with_main : {leaf : Bool} {child : ℕ → Bool} {r ph pu q : ℕ} {m : Node} → Own leaf child r m → Main leaf child ph pu q
    → Own leaf child r (with_requester (with_purpose (with_phase m ph) pu) q)
with_main o n = record { copy = o.copy; main = n; noted = o.noted; probe = o.probe }

module _ {leaf : Bool} {child : ℕ → Bool} {r : ℕ} {m : Node} (o : Own leaf child r m) where
  pub rights_code : r < levels
  unfolding copy_ok
  rights_code = let l = leb-true r tip (both (leb r tip) _ (both (leb r tip && (not (eqb r rights_n) || (not m.dirty && eqb m.value 0))) _ o.copy).0).0 in omega arith

  pub cap_code : leb m.cap cap_n ≡ true
  unfolding probe_ok
  cap_code = (both (leb m.cap cap_n) _ o.probe).0

-- all that number 2 asks of a link, slot by slot
pub record Slots (l : Link) : Type 0 where
  pub a : leb l.a acquire_u ≡ true
  pub b : leb l.b probe_n ≡ true
  pub c : up_ok l.c l.kept l.up ≡ true
  pub d : down_ok l.d l.down ≡ true
  pub e : leb l.e grant_ack ≡ true

pub slots : (l : Link) → link_ok l ≡ true → Slots l
unfolding link_ok
slots l h =
    let a = both _ (leb l.e grant_ack) h in
    let b = both _ (down_ok l.d l.down) a.0 in
    let c = both _ (up_ok l.c l.kept l.up) b.0 in
    let d = both (leb l.a acquire_u) (leb l.b probe_n) c.0 in
    record { a = d.0; b = d.1; c = c.1; d = b.1; e = a.1 }

pub slots_ok : (l : Link) → Slots l → link_ok l ≡ true
unfolding link_ok
slots_ok l f = and_true _ _ (and_true _ _ (and_true _ _ (and_true _ _ f.a f.b) f.c) f.d) f.e

-- one slot written
module _ {l : Link} (f : Slots l) where
  pub slot_a_lem : {a : ℕ} → leb a acquire_u ≡ true → Slots (with_a l a)
  slot_a_lem h = record { a = h; b = f.b; c = f.c; d = f.d; e = f.e }

  pub slot_b_lem : {b : ℕ} → leb b probe_n ≡ true → Slots (with_b l b)
  slot_b_lem h = record { a = f.a; b = h; c = f.c; d = f.d; e = f.e }

  pub slot_c_lem : {c k v : ℕ} → up_ok c k v ≡ true → Slots (filled_c c k v l)
  slot_c_lem h = record { a = f.a; b = f.b; c = h; d = f.d; e = f.e }

  pub slot_d_lem : {d v : ℕ} → down_ok d v ≡ true → Slots (filled_d d v l)
  slot_d_lem h = record { a = f.a; b = f.b; c = f.c; d = h; e = f.e }

  pub slot_e_lem : {e : ℕ} → leb e grant_ack ≡ true → Slots (with_e l e)
  slot_e_lem h = record { a = f.a; b = f.b; c = f.c; d = f.d; e = h }

-- all that number 2 asks of a pair
pub record Pair (r : ℕ) (child : Bool) (e : ℕ) (listed waits : Bool) : Type 0 where
  pub member : member_ok child e listed waits ≡ true
  pub entry : entry_ok r e ≡ true

module _ (r : ℕ) (child : Bool) (e : ℕ) (listed waits : Bool) where
  pub pair : pair_ok r child e listed waits ≡ true → Pair r child e listed waits
  unfolding pair_ok
  pair h = let u = both (member_ok child e listed waits) (entry_ok r e) h in record { member = u.0; entry = u.1 }

  pub pair_ok_lem : Pair r child e listed waits → pair_ok r child e listed waits ≡ true
  unfolding pair_ok
  pair_ok_lem p = and_true _ _ p.member p.entry

pub entry_code : {r e : ℕ} {child listed waits : Bool} → Pair r child e listed waits → e < levels
unfolding member_ok
entry_code {r} {e} {child} {listed} {waits} p =
    let l = leb-true e trunk (both (leb e trunk) (child || (eqb e none && not listed && not waits)) p.member).0 in omega arith
