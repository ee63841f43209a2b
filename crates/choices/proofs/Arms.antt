-- How an arm of a match on the kind meets the row of the table. What is left for the kinds that the table does not have stands in crate laws.
use mathlib.Core.Path.{◌≡◌, sym, subst}
use mathlib.Core.Bool.{Bool}
use Prim.Native.Nat.{ℕ}
use Rattle.rules.specs.Table.{is_kind, kind_of}
use Rattle.rules.specs.declared.Event.{Event}
use Rattle.rules.specs.declared.Scene.{Scene}
use Rattle.rules.specs.declared.kinds.Row.{Row}

-- an arm that found the kind k
module _ {n k : ℕ} (h : n ≡ k) where
  pub is_at : {b : Bool} → b ≡ is_kind k → b ≡ is_kind n
  is_at {b} g = subst (λ (m : ℕ). b ≡ is_kind m) (sym h) g

  pub row_at : {r : Row} → r ≡ (kind_of k).row → r ≡ (kind_of n).row
  row_at {r} g = subst (λ (m : ℕ). r ≡ (kind_of m).row) (sym h) g

  pub needs_at : {b : Bool} (v : Scene) (e : Event) → b ≡ (kind_of k).needs v e → b ≡ (kind_of n).needs v e
  needs_at {b} v e g = subst (λ (m : ℕ). b ≡ (kind_of m).needs v e) (sym h) g

  pub does_at : {w : Scene} (v : Scene) (e : Event) → w ≡ (kind_of k).does v e → w ≡ (kind_of n).does v e
  does_at {w} v e g = subst (λ (m : ℕ). w ≡ (kind_of m).does v e) (sym h) g

  pub says_at : {x : ℕ} (v : Scene) → x ≡ (kind_of k).says v → x ≡ (kind_of n).says v
  says_at {x} v g = subst (λ (m : ℕ). x ≡ (kind_of m).says v) (sym h) g
