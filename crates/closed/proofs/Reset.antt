-- Reset on a good tree gives a configuration on that tree.
use mathlib.Core.Path.{◌≡◌, refl, ◌∙◌}
use mathlib.Core.Bool.{Bool, true, false, not, ◌&&◌, ◌||◌, or-true}
use mathlib.Core.Logic.{◌≢◌}
use mathlib.Core.List.{List}
use Prim.Native.Nat.{ℕ, ◌<◌}
use native.Mathlib.Decide.{ℕ_discrete}
use native.Mathlib.Omega.{arith}
use borrow.Author.Tests.{lt-ltb, eqb-false, not-false}
use lib.ListN.{get_or, replicate, get_or-replicate}
use lib.Seq.{get_or-set_other}
use lib.Dec.{eqb, ltb}
use Rattle.words.specs.Vocab.{fill, choose}
use Rattle.words.proofs.Facts.{and_true, or_left, by_test}
use Rattle.rules.specs.Codes.{node_limit, cells, rights_n, tip, none, accepts}
use Rattle.rules.specs.With.{with_value}
use Rattle.rules.specs.Cells.{blank_node, blank_link, cell, rights, entry, to_probe, pending, node, link}
use Rattle.rules.specs.Tree.{tree_ok, is_child}
use Rattle.rules.specs.Messages.{carries_up, carries_down, is_probe_ack}
use Rattle.rules.specs.Configuration.{copy_ok, child_ok, probe_ok, up_ok, down_ok, member_ok, entry_ok, slots_empty, blank, stands_ok, configuration_ok}
use Rattle.rules.specs.Step.{tree_parent, tree_parents, start_of, reset_of}
use Rattle.rules.specs.declared.Node.{Node}
use Rattle.rules.specs.declared.Answer.{Answer}
use Rattle.laws.proofs.ResetTree.{parent_at}
use Rattle.writes.proofs.Writes.{Sized}
use Rattle.writes.proofs.Accepted.{tree}
use Rattle.closed.proofs.Subjects.{Own, Slots, Pair}
use Rattle.closed.proofs.Fits.{Fits, from_fits}
use Rattle.closed.proofs.Work.{idle_main}

-- a node with an empty link stands where it may: where the parent is not the given one it is 0
start_stands : (n : ℕ) (ps : List ℕ) (y r : ℕ) (m : Node) → y < node_limit → (ltb y n || blank r m) ≡ true
    → stands_ok n y (get_or (tree_parents n ps) y 0) r m blank_link ≡ true
unfolding stands_ok slots_empty tree_parent
start_stands n ps y r m b h =
    rw (parent_at n ps y b)
    (and_true _ _ (by_test Stands (ltb y n) _ _ (λ l. by_test Stands (eqb y 0) _ _ (λ _. zero) (inside l)) (λ _. zero)) h)
  where
    Stands : ℕ → Type 0
    Stands p = ((ltb 0 y && ltb y n) || (eqb p 0 && slots_empty blank_link)) ≡ true

    zero : Stands 0
    zero = or-true (ltb 0 y && ltb y n)

    inside : ltb y n ≡ true → eqb y 0 ≡ false → Stands (get_or ps y 0)
    inside l e = let o = eqb-false y 0 e in or_left _ _ (and_true _ _ (lt-ltb 0 y (omega arith)) l)

-- what stands in each cell: "root Tip, clean, first value; all others N with value 0; entries None; everything idle and empty"
module _ (n : ℕ) (ps : List ℕ) (v : ℕ) where
  pub start_sized : Sized (start_of n ps v)
  unfolding start_of tree_parents fill
  start_sized = record { parents = refl; rights = refl; entries = refl; to_probe = refl; pending = refl; links = refl; nodes = refl }

  pub root_fields : node (start_of n ps v) 0 ≡ with_value blank_node v
  unfolding start_of
  root_fields = refl

  pub start_link : (y : ℕ) → y < node_limit → link (start_of n ps v) y ≡ blank_link
  unfolding start_of
  start_link y h = get_or-replicate node_limit y blank_link blank_link h

  module _ (y : ℕ) (h : y < node_limit) (o : y ≢ 0) where
    pub start_rights : rights (start_of n ps v) y ≡ rights_n
    unfolding start_of
    start_rights = get_or-set_other (replicate node_limit 0) 0 y tip 0 o ∙ get_or-replicate node_limit y 0 0 h

    pub start_fields : node (start_of n ps v) y ≡ blank_node
    unfolding start_of
    start_fields = get_or-set_other (replicate node_limit blank_node) 0 y (with_value blank_node v) blank_node o ∙ get_or-replicate node_limit y blank_node blank_node h

  module _ (y k : ℕ) (h : y < node_limit) (b : k < node_limit) where
    l : cell y k < cells
    l = omega arith

    pub start_entry : entry (start_of n ps v) y k ≡ none
    unfolding start_of
    start_entry = get_or-replicate cells (cell y k) 0 0 l

    pub start_listed : to_probe (start_of n ps v) y k ≡ false
    unfolding start_of
    start_listed = get_or-replicate cells (cell y k) false false l

    pub start_waits : pending (start_of n ps v) y k ≡ false
    unfolding start_of
    start_waits = get_or-replicate cells (cell y k) false false l

-- everything idle and empty, with the rights r and the value v
idle_own : (leaf : Bool) (child : ℕ → Bool) (r v : ℕ) → copy_ok r false v ≡ true → Own leaf child r (with_value blank_node v)
unfolding child_ok probe_ok
idle_own leaf child r v h = record { copy = h; main = idle_main; probe = refl; noted = refl }

blank_slots : Slots blank_link
unfolding up_ok down_ok is_probe_ack carries_up carries_down choose
blank_slots = record { a = refl; b = refl; c = refl; d = refl; e = refl }

blank_pair : (r : ℕ) (child : Bool) → Pair r child none false false
unfolding member_ok entry_ok
blank_pair r child = record { member = or-true child; entry = refl }

module _ (n : ℕ) (ps : List ℕ) (v : ℕ) (g : tree_ok n ps ≡ true) where
  start_pair : (y k : ℕ) → y < node_limit → k < node_limit
      → Pair (rights (start_of n ps v) y) (is_child (start_of n ps v) y k) (entry (start_of n ps v) y k) (to_probe (start_of n ps v) y k) (pending (start_of n ps v) y k)
  start_pair y k h b = rw (start_entry n ps v y k h b, start_listed n ps v y k h b, start_waits n ps v y k h b) (blank_pair _ _)

  root_fits : Fits (start_of n ps v) 0
  unfolding start_of copy_ok
  root_fits =
      let l : 0 < n = omega (arith, (tree n ps g).least) in
      record {
        own = idle_own _ _ tip v refl;
        link = blank_slots;
        stands = start_stands n ps 0 tip _ (omega arith) (or_left _ _ (lt-ltb 0 n l));
        pairs = λ k b. start_pair 0 k (omega arith) b;
      }

  rest_fits : (y : ℕ) → y < node_limit → y ≢ 0 → Fits (start_of n ps v) y
  unfolding start_of copy_ok blank
  rest_fits y h o =
      let r = start_rights n ps v y h o in
      let m = start_fields n ps v y h o in
      let l = start_link n ps v y h in
      record {
        own = rw (r, m) (idle_own _ _ rights_n 0 refl);
        link = rw l blank_slots;
        stands = rw (r, m, l) (start_stands n ps y rights_n blank_node h (or-true (ltb y n)));
        pairs = λ k b. start_pair y k h b;
      }

  pub start_configuration : configuration_ok (start_of n ps v) ≡ true
  start_configuration = from_fits (start_of n ps v) λ y h. go y h (ℕ_discrete y 0)
    where
      go : (y : ℕ) → y < node_limit → Dec (y ≡ 0) → Fits (start_of n ps v) y
      go y h (yes e) = rw e root_fits
      go y h (no o) = rest_fits y h o

-- reset that answers 0 gives a configuration
pub reset_closed : (n : ℕ) (ps : List ℕ) (v : ℕ) → (reset_of n ps v).number ≡ accepts → configuration_ok (reset_of n ps v).state ≡ true
unfolding reset_of
reset_closed n ps v =
    by_test (λ (a : Answer). a.number ≡ accepts → configuration_ok a.state ≡ true) (not (tree_ok n ps)) _ _
    (λ _ h. absurd (omega arith)) (λ g _. start_configuration n ps v (not-false _ g))
