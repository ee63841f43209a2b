-- A row past the last, and a name from what was found of a row.
use mathlib.Core.Path.{◌≡◌, refl, sym, ◌∙◌}
use mathlib.Core.Bool.{Bool, true, false, ◌||◌}
use mathlib.Core.List.{List}
use Prim.Native.Nat.{ℕ, zero, suc, ◌≤◌}
use native.Mathlib.Omega.{arith}
use lib.ListN.{length, get_or, get_or-eq_default}
use lib.Dec.{eqb}
use Rattle.words.specs.Vocab.{any}
use Rattle.words.proofs.Facts.{any_same}
use Rattle.rules.specs.Codes.{node_limit, cells, none}
use Rattle.rules.specs.Cells.{cell}
use Rattle.rules.specs.Names.{name_of, some_in}

-- a test that does not look at the index
or_same : (b : Bool) → (b || b) ≡ b
or_same true = refl
or_same false = refl

any_const : (b : Bool) (n : ℕ) → any (λ (k : ℕ). b) (suc n) ≡ b
unfolding any
any_const b zero = refl
any_const b (suc n) = rw (any_const b n) (or_same b)

pub past_rows : (es : List ℕ) (x e : ℕ) {v : ℕ} → length es ≡ cells → node_limit ≤ x → v ≡ get_or es cells none → eqb v e ≡ some_in es x e
unfolding some_in
past_rows es x e {v} h l f =
    let z : v ≡ none = f ∙ none_past cells (omega arith) in
    rw z (sym (any_same _ (λ (k : ℕ). eqb none e) node_limit (λ k b. rw (none_past (cell x k) (omega arith))) ∙ any_const (eqb none e) _))
  where
    none_past : (i : ℕ) → cells ≤ i → get_or es i none ≡ none
    none_past i m = let past : length es ≤ i = omega arith in get_or-eq_default es none past

pub named_by : {r r' n : ℕ} {t t' b b' : Bool} → n ≡ name_of r t b → r ≡ r' → t ≡ t' → b ≡ b' → n ≡ name_of r' t' b'
named_by h p q g = rw (← p, ← q, ← g) h
