-- What a node's name says of its rights and its entries.
use mathlib.Core.Path.{◌≡◌}
use mathlib.Core.Bool.{Bool, true, false, false≢true}
use mathlib.Core.Logic.{◌≢◌, ◌⊎◌, inl, inr}
use Prim.Native.Nat.{ℕ, ◌<◌}
use native.Mathlib.Omega.{arith}
use borrow.Author.Tests.{eqb-true}
use lib.Dec.{eqb}
use Rattle.words.proofs.Facts.{by_test}
use Rattle.rules.specs.Codes.{node_limit, levels, rights_b, tip, none, branch, trunk, name_n, name_b, name_t, name_tb, name_tt}
use Rattle.rules.specs.Cells.{rights, entry}
use Rattle.rules.specs.Names.{name_of, named, readable_name, readable, some_entry}
use Rattle.rules.specs.declared.State.{State}
use Rattle.writes.proofs.Needs.{no_entry}
use Rattle.closed.proofs.Subjects.{entry_code}
use Rattle.coherence.proofs.Invariant.Clauses.{Inv}
use Rattle.coherence.proofs.Invariant.Valid.{trunk_tip}
use Rattle.coherence.proofs.Invariant.Here.{fit_at}

-- the five names, with trunks and branches for "any Trunk entry" and "any Branch entry"
data Called (r : ℕ) (trunks branches : Bool) : ℕ → Type 0 where
  is_n : Called r trunks branches name_n
  is_b : r ≡ rights_b → Called r trunks branches name_b
  is_t : Called r trunks branches name_t
  is_tb : r ≡ tip → trunks ≡ false → Called r trunks branches name_tb
  is_tt : r ≡ tip → trunks ≡ false → branches ≡ false → Called r trunks branches name_tt

called : (r : ℕ) (trunks branches : Bool) → Called r trunks branches (name_of r trunks branches)
unfolding name_of
called r t b =
    by_test (Called r t b) (eqb r tip) _ _
    (λ e. by_test (Called r t b) t _ _ (λ _. is_t) λ f. by_test (Called r t b) b _ _ (λ _. is_tb (eqb-true _ _ e) f) (λ g. is_tt (eqb-true _ _ e) f g))
    (λ _. by_test (Called r t b) (eqb r rights_b) _ _ (λ e. is_b (eqb-true _ _ e)) (λ _. is_n))

reads : {r : ℕ} {t b : Bool} {n : ℕ} → Called r t b n → readable_name n ≡ true → (r ≡ rights_b) ⊎ ((r ≡ tip) × (t ≡ false))
reads is_n h = absurd (false≢true h)
reads (is_b e) h = inl e
reads is_t h = absurd (false≢true h)
reads (is_tb e f) h = inr (e, f)
reads (is_tt e f g) h = inr (e, f)

tops : {r : ℕ} {t b : Bool} {n : ℕ} → Called r t b n → n ≡ name_tt → (r ≡ tip) × (t ≡ false) × (b ≡ false)
tops is_n h = absurd (omega arith)
tops (is_b e) h = absurd (omega arith)
tops is_t h = absurd (omega arith)
tops (is_tb e f) h = absurd (omega arith)
tops (is_tt e f g) h = (e, f, g)

-- readable: B, or Tip without a Trunk entry
pub readable_is : (s : State) (x : ℕ) → readable s x ≡ true → (rights s x ≡ rights_b) ⊎ ((rights s x ≡ tip) × ((k : ℕ) → k < node_limit → entry s x k ≢ trunk))
readable_is s x h = go (reads (called (rights s x) (some_entry s x trunk) (some_entry s x branch)) h)
  where
    go : (rights s x ≡ rights_b) ⊎ ((rights s x ≡ tip) × (some_entry s x trunk ≡ false))
        → (rights s x ≡ rights_b) ⊎ ((rights s x ≡ tip) × ((k : ℕ) → k < node_limit → entry s x k ≢ trunk))
    go (inl e) = inl e
    go (inr u) = inr (u.0, no_entry s x trunk u.1)

module _ {s : State} {v : ℕ} (i : Inv s v) (x : ℕ) (h : x < s.count) where
  -- so in either case no entry is Trunk
  pub readable_untrunked : readable s x ≡ true → (k : ℕ) → k < node_limit → entry s x k ≢ trunk
  readable_untrunked r k l = go (readable_is s x r)
    where
      go : (rights s x ≡ rights_b) ⊎ ((rights s x ≡ tip) × ((k : ℕ) → k < node_limit → entry s x k ≢ trunk)) → entry s x k ≢ trunk
      go (inr u) z = u.1 k l z
      go (inl b) z = let t : rights s x ≡ tip = trunk_tip ((fit_at i x h).pairs k l) z in omega arith

  -- TT: Tip, and all entries are None
  pub tt_is : named s x ≡ name_tt → (rights s x ≡ tip) × ((k : ℕ) → k < node_limit → entry s x k ≡ none)
  tt_is e = (u.0, nothing)
    where
      u : (rights s x ≡ tip) × (some_entry s x trunk ≡ false) × (some_entry s x branch ≡ false)
      u = tops (called (rights s x) (some_entry s x trunk) (some_entry s x branch)) e

      nothing : (k : ℕ) → k < node_limit → entry s x k ≡ none
      nothing k l =
          let a : entry s x k ≢ trunk = no_entry s x trunk u.1 k l in
          let b : entry s x k ≢ branch = no_entry s x branch u.2 k l in
          let c : entry s x k < levels = entry_code ((fit_at i x h).pairs k l) in
          omega arith
