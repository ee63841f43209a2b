-- The invariant says demand 3, part by part.
use mathlib.Core.Path.{◌≡◌, refl, sym, ◌∙◌, ap}
use mathlib.Core.Bool.{true, ◌&&◌}
use mathlib.Core.Logic.{◌≢◌, ◌⊎◌, inl, inr}
use Prim.Native.Nat.{ℕ, zero, suc, ◌<◌, ◌≤◌}
use native.Mathlib.Nat.{not-suc-le-zero}
use native.Mathlib.Decide.{ℕ_discrete}
use native.Mathlib.Omega.{arith}
use lib.Dec.{eqb}
use Rattle.words.specs.Vocab.{all}
use Rattle.words.proofs.Facts.{both, and_true, choose_false}
use Rattle.rules.specs.Codes.{node_limit, levels, rights_n, rights_b, tip, none, trunk, name_tt, empty}
use Rattle.rules.specs.Cells.{parent, rights, entry, link, value}
use Rattle.rules.specs.Names.{named, readable}
use Rattle.rules.specs.Configuration.{slots_empty}
use Rattle.rules.specs.declared.State.{State}
use Rattle.rules.specs.declared.Link.{Link}
use Rattle.closed.proofs.Subjects.{rights_code}
use Rattle.writes.proofs.Needs.{Child}
use Rattle.writes.proofs.Views.{view}
use Rattle.coherence.specs.Coherent.{says_rights, Coherent}
use Rattle.coherence.proofs.Invariant.Clauses.{◌⇒◌, agrees, exactly, upward, LinkOk, Inv}
use Rattle.coherence.proofs.Invariant.Valid.{held, trunk_tip}
use Rattle.coherence.proofs.Invariant.Tokens.{Codes, code_at, implies2}
use Rattle.coherence.proofs.Invariant.Here.{good, small, fit_at, own_child, clean, child_small, inside_above, codes_of, below_entry, no_data}
use Rattle.coherence.proofs.Meaning.Named.{readable_is, tt_is}
use Rattle.coherence.proofs.Meaning.SoleTip.{Above, sole_tip}

-- with C and D empty the entry says the rights
says : {r e c k d : ℕ} → Codes r e c k d → (agrees r e c k d && exactly r e c k d) ≡ true → (eqb c empty && eqb d empty) ≡ true → says_rights e r ≡ true
unfolding all agrees exactly
says w = implies2 _ _ _ (code_at (λ r e c k d. (agrees r e c k d && exactly r e c k d) ⇒ (eqb c empty && eqb d empty) ⇒ says_rights e r) refl w)

empty_slots : (l : Link) → slots_empty l ≡ true → (eqb l.c empty && eqb l.d empty) ≡ true
unfolding slots_empty
empty_slots l h =
    let u = both (eqb l.a empty && eqb l.b empty && eqb l.c empty && eqb l.d empty) (eqb l.e empty) h in
    let w = both (eqb l.a empty && eqb l.b empty && eqb l.c empty) (eqb l.d empty) u.0 in
    and_true _ _ (both (eqb l.a empty && eqb l.b empty) (eqb l.c empty) w.0).1 w.1

module _ {s : State} {v : ℕ} (i : Inv s v) where
  -- "a node in TT is the only readable node of the tree"
  only : (x y : ℕ) → x < s.count → y < s.count → named s x ≡ name_tt → readable s y ≡ true → y ≡ x
  only x y hx hy e r = go (ℕ_discrete y x)
    where
      neither : (rights s y ≡ rights_n) ⊎ Above s y → (rights s y ≡ rights_b) ⊎ ((rights s y ≡ tip) × ((k : ℕ) → k < node_limit → entry s y k ≢ trunk)) → ⊥
      neither (inl a) (inl b) = omega arith
      neither (inl a) (inr u) = let b : rights s y ≡ tip = u.0 in omega arith
      neither (inr a) (inl b) =
          let t : rights s y ≡ tip = trunk_tip ((fit_at i y hy).pairs a.towards (child_small i a.child)) a.entry in
          omega arith
      neither (inr a) (inr u) = u.1 a.towards (child_small i a.child) a.entry

      go : Dec (y ≡ x) → y ≡ x
      go (yes f) = f
      go (no n) =
          let u = tt_is i x hx e in
          absurd (neither (sole_tip i x hx u.0 u.1 y hy n) (readable_is s y r))

  -- a node at B: its value is the last one, or its parent's
  held_b : (n y : ℕ) → y < n → y < s.count → rights s y ≡ rights_b → value s y ≡ v
  held_b zero y l h b = absurd (not-suc-le-zero l)
  held_b (suc n) y l h b = go (ℕ_discrete (entry s p y) trunk) (λ e. held_b n p (omega (arith, (good i).smaller y pos h)) inside e)
    where
      pos : 0 < y
      pos =
          let n : y ≢ 0 = λ e. let t : rights s y ≡ tip = (i.nodes y h).root e in omega arith in
          omega arith

      p : ℕ
      p = parent s y

      child : Child s p y
      child = own_child i y pos h

      inside : p < s.count
      inside = inside_above i child

      under : rights s y ≤ entry s p y
      under = below_entry i child

      ok : LinkOk v (view s y) y
      ok = i.links y pos h

      copied : value s y ≡ upward (view s y)
      copied = ok.copy (λ e. omega arith) (clean i y h (λ e. omega arith))

      -- a Branch entry: the parent has no Trunk entry
      shared : entry s p y ≢ trunk → (k : ℕ) → k < node_limit → entry s p k ≢ trunk
      shared e k m f = at (ℕ_discrete k y)
        where
          at : Dec (k ≡ y) → ⊥
          at (yes g) = e (ap (entry s p) (sym g) ∙ f)
          at (no g) = let z : entry s p y ≡ none = (i.nodes p inside).row k y m (small i y h) g f in omega (arith, under)

      parent_holds : entry s p y ≢ trunk → (rights s p ≡ rights_b → value s p ≡ v) → Dec (rights s p ≡ tip) → value s p ≡ v
      parent_holds e ih (yes t) = (i.nodes p inside).last t (shared e)
      parent_holds e ih (no t) =
          ih
          (let o : rights s p ≢ rights_n = held ((fit_at i p inside).pairs y (small i y h)) (λ z. omega (arith, under)) in
          let c : rights s p < levels = rights_code (fit_at i p inside).own in
          omega arith)

      go : Dec (entry s p y ≡ trunk) → (rights s p ≡ rights_b → value s p ≡ v) → value s y ≡ v
      go (yes e) ih = copied ∙ ok.last e (λ t. omega arith)
      go (no e) ih = copied ∙ (choose_false _ _ (no_data i child e) ∙ parent_holds e ih (ℕ_discrete (rights s p) tip))

  -- "every readable node holds the value of the last accepted store, or the first value"
  fresh : (x : ℕ) → x < s.count → readable s x ≡ true → value s x ≡ v
  fresh x h r = go (readable_is s x r)
    where
      go : (rights s x ≡ rights_b) ⊎ ((rights s x ≡ tip) × ((k : ℕ) → k < node_limit → entry s x k ≢ trunk)) → value s x ≡ v
      go (inl b) = held_b (suc x) x (omega arith) h b
      go (inr u) = (i.nodes x h).last u.0 u.1

  -- "on every link with five empty slots .. the parent's entry says the rights that the child holds"
  quiet : (k : ℕ) → 0 < k → k < s.count → slots_empty (link s k) ≡ true → says_rights (entry s (parent s k) k) (rights s k) ≡ true
  quiet k a b h =
      let w = i.links k a b in
      says (codes_of i (own_child i k a b)) (and_true _ _ w.agree w.exact) (empty_slots (link s k) h)

  pub inv_coherent : Coherent s v
  inv_coherent = record { only = only; fresh = fresh; quiet = λ k a b h _ _. quiet k a b h }
