-- Number 2 at one node, as a record of its parts, and the configuration from them.
use mathlib.Core.Path.{◌≡◌}
use mathlib.Core.Bool.{true}
use Prim.Native.Nat.{ℕ, ◌<◌}
use Rattle.words.proofs.Facts.{both, and_true, all_at, all_from}
use Rattle.rules.specs.Codes.{node_limit}
use Rattle.rules.specs.Cells.{rights, entry, to_probe, pending, node, link}
use Rattle.rules.specs.Tree.{is_child, is_leaf}
use Rattle.rules.specs.Configuration.{link_ok, own_at, stands_at, pair_at, row_at, right_at, configuration_ok}
use Rattle.rules.specs.declared.State.{State}
use Rattle.closed.proofs.Subjects.{Own, own, own_ok, Slots, slots, slots_ok, Pair, pair, pair_ok_lem}

-- number 2 finds nothing at y
pub record Fits (s : State) (y : ℕ) : Type 0 where
  pub own : Own (is_leaf s y) (is_child s y) (rights s y) (node s y)
  pub link : Slots (link s y)
  pub stands : stands_at s y ≡ true
  pub pairs : (k : ℕ) → k < node_limit → Pair (rights s y) (is_child s y k) (entry s y k) (to_probe s y k) (pending s y k)

fits_at : (s : State) (y : ℕ) → right_at s y ≡ true → Fits s y
unfolding right_at
fits_at s y h =
    let a = both _ (row_at s y) h in
    let b = both _ (stands_at s y) a.0 in
    let c = both (own_at s y) (link_ok (link s y)) b.0 in
    record {
      own = own _ _ _ _ c.0;
      link = slots _ c.1;
      stands = b.1;
      pairs = λ k l. pair _ _ _ _ _ (all_at (pair_at s y) node_limit k a.1 l);
    }

at_fits : (s : State) (y : ℕ) → Fits s y → right_at s y ≡ true
unfolding right_at
at_fits s y f =
    and_true _ _ (and_true _ _ (and_true _ _ (own_ok _ _ _ _ f.own) (slots_ok _ f.link)) f.stands)
    (all_from (pair_at s y) node_limit (λ k l. pair_ok_lem _ _ _ _ _ (f.pairs k l)))

pub fits : (s : State) → configuration_ok s ≡ true → (y : ℕ) → y < node_limit → Fits s y
unfolding configuration_ok
fits s h y l = fits_at s y (all_at (right_at s) node_limit y h l)

pub from_fits : (s : State) → ((y : ℕ) → y < node_limit → Fits s y) → configuration_ok s ≡ true
unfolding configuration_ok
from_fits s f = all_from (right_at s) node_limit (λ y l. at_fits s y (f y l))
