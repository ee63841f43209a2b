-- A row with one cell replaced, at that cell and off it; a set that lost a member or none; entries of which one fell.
use mathlib.Core.Path.{◌≡◌, refl, sym, ◌∙◌}
use mathlib.Core.Bool.{Bool, true, false}
use mathlib.Core.Logic.{◌≢◌}
use Prim.Native.Nat.{ℕ, ◌<◌, ◌≤◌}
use native.Mathlib.Decide.{ℕ_discrete}
use native.Mathlib.Omega.{arith}
use Rattle.words.proofs.Facts.{choose_at, choose_off, clash}
use Rattle.rules.specs.Codes.{node_limit, none, trunk}
use Rattle.writes.proofs.Writes.{with_at}

module _ {A : Type 0} (f : ℕ → A) (k : ℕ) (v : A) where
  pub with_here : with_at f k v k ≡ v
  with_here = choose_at k k v (f k) refl

  pub with_there : (j : ℕ) → j ≢ k → with_at f k v j ≡ f j
  with_there j n = choose_off j k v (f j) n

-- g is the set f, or f without k
pub record Less (f g : ℕ → Bool) (k : ℕ) : Type 0 where
  pub off : (j : ℕ) → j ≢ k → g j ≡ f j
  pub sub : (j : ℕ) → g j ≡ true → f j ≡ true

pub less_none : (f : ℕ → Bool) (k : ℕ) → Less f f k
less_none f k = record { off = λ j n. refl; sub = λ j e. e }

pub less_one : (f : ℕ → Bool) (k : ℕ) → Less f (with_at f k false) k
less_one f k = record { off = λ j n. with_there f k false j n; sub = λ j e. sub j e (ℕ_discrete j k) }
  where
    sub : (j : ℕ) → with_at f k false j ≡ true → Dec (j ≡ k) → f j ≡ true
    sub j e (yes h) = clash e (choose_at j k false (f j) h)
    sub j e (no n) = sym (with_there f k false j n) ∙ e

-- ROW holds on where one entry fell, and not to Trunk
module _ (es : ℕ → ℕ) (k e : ℕ) (bound : k < node_limit) (low : e ≢ trunk) (under : e ≤ es k) where
  -- a Trunk entry that is there was there, and not at k
  pub trunk_was : (a : ℕ) → with_at es k e a ≡ trunk → (a ≢ k) × (es a ≡ trunk)
  trunk_was a h = go (ℕ_discrete a k)
    where
      go : Dec (a ≡ k) → (a ≢ k) × (es a ≡ trunk)
      go (yes f) = absurd (low (sym (choose_at a k e (es a) f) ∙ h))
      go (no n) = (n, sym (with_there es k e a n) ∙ h)

  pub row_fell : ((a b : ℕ) → a < node_limit → b < node_limit → a ≢ b → es a ≡ trunk → es b ≡ none)
      → (a b : ℕ) → a < node_limit → b < node_limit → a ≢ b → with_at es k e a ≡ trunk → with_at es k e b ≡ none
  row_fell row a b la lb n h = go (ℕ_discrete b k)
    where
      was : (a ≢ k) × (es a ≡ trunk)
      was = trunk_was a h

      go : Dec (b ≡ k) → with_at es k e b ≡ none
      go (yes f) = let z : es k ≡ none = row a k la bound was.0 was.1 in choose_at b k e (es b) f ∙ omega arith
      go (no o) = with_there es k e b o ∙ row a b la lb n was.1
