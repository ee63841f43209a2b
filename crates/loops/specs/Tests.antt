-- What a loop asks of a closure, and what it says of it.
use Rattle.std.specs.Prelude.{◌≡◌, Bool, ℕ, ◌<◌}
use Rattle.rules.specs.declared.Index.{Index}

-- it may be called at each number below n
abbrev pub Callable : (ℕ → Type 0) → ℕ → Type 0
Callable pre n = (k : ℕ) → k < n → pre k

-- it answers p k at each number k below n
abbrev pub IsRule : {A : Type 0} → (ℕ → A → Type 0) → (ℕ → A) → ℕ → Type 0
IsRule post p n = (k : ℕ) → k < n → (r : _) → post k r → r ≡ p k

abbrev pub IsTest : (ℕ → Bool → Type 0) → (ℕ → Bool) → ℕ → Type 0
IsTest = IsRule

-- it answers p x at each node x
abbrev pub IsNodeTest : (Index → Bool → Type 0) → (ℕ → Bool) → Type 0
IsNodeTest post p = (x : Index) → (r : Bool) → post x r → r ≡ p x.at
