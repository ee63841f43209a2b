-- A rule on codes, computed over all of them, at one choice of codes: where the test f passes, the test g does.
use mathlib.Core.Path.{◌≡◌}
use mathlib.Core.Bool.{Bool, true, not, ◌||◌}
use Prim.Native.Nat.{ℕ, ◌<◌}
use Rattle.words.specs.Vocab.{all}
use Rattle.words.proofs.Facts.{all_at, implies}

abbrev pub Table : (ℕ → Bool) → (ℕ → Bool) → ℕ → Type 0
Table f g n = all (λ i. not (f i) || g i) n ≡ true

pub by_code : (f g : ℕ → Bool) (n : ℕ) → Table f g n → (i : ℕ) → i < n → f i ≡ true → g i ≡ true
by_code f g n t i h e = implies (f i) (g i) (all_at (λ i. not (f i) || g i) n i t h) e

-- on two codes
abbrev all2 : (ℕ → ℕ → Bool) → ℕ → ℕ → Bool
all2 f m n = all (λ a. all (f a) n) m

abbrev pub Table2 : (ℕ → ℕ → Bool) → (ℕ → ℕ → Bool) → ℕ → ℕ → Type 0
Table2 f g m n = all2 (λ a b. not (f a b) || g a b) m n ≡ true

pub by_two : (f g : ℕ → ℕ → Bool) (m n : ℕ) → Table2 f g m n → (a b : ℕ) → a < m → b < n → f a b ≡ true → g a b ≡ true
by_two f g m n t a b h k = by_code (f a) (g a) n (all_at (λ a. all (λ b. not (f a b) || g a b) n) m a t h) b k

-- on three codes
abbrev pub Table3 : (ℕ → ℕ → ℕ → Bool) → (ℕ → ℕ → ℕ → Bool) → ℕ → ℕ → ℕ → Type 0
Table3 f g l m n = all (λ a. all2 (λ b c. not (f a b c) || g a b c) m n) l ≡ true

pub by_three : (f g : ℕ → ℕ → ℕ → Bool) (l m n : ℕ) → Table3 f g l m n → (a b c : ℕ) → a < l → b < m → c < n → f a b c ≡ true → g a b c ≡ true
by_three f g l m n t a b c h k i = by_two (f a) (g a) m n (all_at (λ a. all2 (λ b c. not (f a b c) || g a b c) m n) l a t h) b c k i
