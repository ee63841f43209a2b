-- What a test that holds says, and how a test is shown: conjunctions, choices, every and some number below n, rows.
use mathlib.Core.Path.{◌≡◌, refl, ◌∙◌, sym}
use mathlib.Core.Bool.{Bool, true, false, ◌&&◌, ◌||◌, not, false≢true}
use mathlib.Core.Logic.{◌≢◌, ◌⊎◌, inl, inr}
use mathlib.Core.List.{List}
use Prim.Native.Nat.{ℕ, zero, suc, ◌+◌, ◌<◌, ◌≤◌}
use native.Mathlib.Nat.{not-suc-le-zero}
use native.Mathlib.Decide.{dec_lt, ℕ_discrete}
use native.Mathlib.Omega.{arith}
use borrow.Author.Tests.{eq-eqb, ne_eqb}
use lib.ListN.{set, length, length-set, get_or}
use lib.Seq.{get_or-set_same, get_or-set_other}
use lib.Dec.{eqb}
use Rattle.words.specs.Vocab.{all, any, fill, choose}

-- a conjunction that holds, and one that is shown
pub both : (a b : Bool) → (a && b) ≡ true → (a ≡ true) × (b ≡ true)
both true b h = (refl, h)
both false b h = absurd (false≢true h)

pub and_true : (a b : Bool) → a ≡ true → b ≡ true → (a && b) ≡ true
and_true a b e f = rw e f

-- a disjunction that holds, that fails, and one that is shown
pub either : (a b : Bool) → (a || b) ≡ true → (a ≡ true) ⊎ (b ≡ true)
either true b h = inl refl
either false b h = inr h

pub neither : (a b : Bool) → (a || b) ≡ false → (a ≡ false) × (b ≡ false)
neither true b h = absurd (false≢true (sym h))
neither false b h = (refl, h)

pub or_left : (a b : Bool) → a ≡ true → (a || b) ≡ true
or_left a b e = rw e

pub or_right : (a b : Bool) → b ≡ true → (a || b) ≡ true
or_right true b e = refl
or_right false b e = e

-- an implication written as a disjunction
pub implies : (a b : Bool) → (not a || b) ≡ true → a ≡ true → b ≡ true
implies true b h e = h
implies false b h e = absurd (false≢true e)

-- two numbers that differ
pub differ : (a b : ℕ) → a ≢ b → not (eqb a b) ≡ true
differ a b n = rw (ne_eqb a b n)

-- the two sides of a test
pub decided : (b : Bool) → (b ≡ true) ⊎ (b ≡ false)
decided true = inl refl
decided false = inr refl

pub clash : {A : Type 0} {b : Bool} → b ≡ true → b ≡ false → A
clash e f = absurd (false≢true (sym f ∙ e))

-- a choice, by cases on its test
module _ {A : Type 0} where
  pub choose_true : {t : Bool} (a b : A) → t ≡ true → choose t a b ≡ a
  unfolding choose
  choose_true a b e = rw e

  pub choose_false : {t : Bool} (a b : A) → t ≡ false → choose t a b ≡ b
  unfolding choose
  choose_false a b e = rw e

  pub by_test : (P : A → Type 0) (t : Bool) (a b : A) → (t ≡ true → P a) → (t ≡ false → P b) → P (choose t a b)
  unfolding choose
  by_test P true a b f g = f refl
  by_test P false a b f g = g refl

  -- a choice at the number k
  pub choose_at : (j k : ℕ) (a b : A) → j ≡ k → choose (eqb j k) a b ≡ a
  choose_at j k a b e = choose_true a b (eq-eqb j k e)

  pub choose_off : (j k : ℕ) (a b : A) → j ≢ k → choose (eqb j k) a b ≡ b
  choose_off j k a b n = choose_false a b (ne_eqb j k n)

-- every number below n
pub all_at : (f : ℕ → Bool) (n i : ℕ) → all f n ≡ true → i < n → f i ≡ true
unfolding all
all_at f zero i h l = absurd (not-suc-le-zero l)
all_at f (suc n) i h l = go (dec_lt i n) (λ m. all_at f n i (both _ _ h).0 m)
  where
    go : Dec (i < n) → (i < n → f i ≡ true) → f i ≡ true
    go (yes m) ih = ih m
    go (no m) ih = let e : i ≡ n = omega arith in rw e (both (all f n) (f n) h).1

pub all_from : (f : ℕ → Bool) (n : ℕ) → ((i : ℕ) → i < n → f i ≡ true) → all f n ≡ true
unfolding all
all_from f zero h = refl
all_from f (suc n) h = and_true (all f n) (f n) (all_from f n (λ i l. h i (omega arith))) (h n (omega arith))

-- some number below n
pub any_off : (f : ℕ → Bool) (n i : ℕ) → any f n ≡ false → i < n → f i ≡ false
unfolding any
any_off f zero i h l = absurd (not-suc-le-zero l)
any_off f (suc n) i h l = go (dec_lt i n) (λ m. any_off f n i (neither _ _ h).0 m)
  where
    go : Dec (i < n) → (i < n → f i ≡ false) → f i ≡ false
    go (yes m) ih = ih m
    go (no m) ih = let e : i ≡ n = omega arith in rw e (neither (any f n) (f n) h).1

pub any_none_from : (f : ℕ → Bool) (n : ℕ) → ((i : ℕ) → i < n → f i ≡ false) → any f n ≡ false
unfolding any
any_none_from f zero h = refl
any_none_from f (suc n) h = rw (any_none_from f n (λ i l. h i (omega arith))) (h n (omega arith))

pub any_at : (f : ℕ → Bool) (n i : ℕ) → i < n → f i ≡ true → any f n ≡ true
any_at f n i l e = go (decided (any f n))
  where
    go : (any f n ≡ true) ⊎ (any f n ≡ false) → any f n ≡ true
    go (inl y) = y
    go (inr z) = clash e (any_off f n i z l)

-- where some number passes the test: which
pub any_some : (f : ℕ → Bool) (n : ℕ) → any f n ≡ true → ((i : ℕ) × (i < n) × (f i ≡ true))
unfolding any
any_some f zero h = absurd (false≢true h)
any_some f (suc n) h = go (either (any f n) (f n) h) (λ e. any_some f n e)
  where
    go : (any f n ≡ true) ⊎ (f n ≡ true) → (any f n ≡ true → ((i : ℕ) × (i < n) × (f i ≡ true))) → ((i : ℕ) × (i < suc n) × (f i ≡ true))
    go (inl e) ih = let w = ih e in let l : w.0 < n = w.1 in (w.0, omega arith, w.2)
    go (inr e) ih = (n, omega arith, e)

-- two tests that agree below n
pub any_same : (f g : ℕ → Bool) (n : ℕ) → ((i : ℕ) → i < n → f i ≡ g i) → any f n ≡ any g n
unfolding any
any_same f g zero h = refl
any_same f g (suc n) h = rw (any_same f g n (λ i l. h i (omega arith)), h n (omega arith))

pub all_same : (f g : ℕ → Bool) (n : ℕ) → ((i : ℕ) → i < n → f i ≡ g i) → all f n ≡ all g n
unfolding all
all_same f g zero h = refl
all_same f g (suc n) h = rw (all_same f g n (λ i l. h i (omega arith)), h n (omega arith))

-- a list after a fill
module _ {A : Type 0} where
  pub get_or_fill_at : (f : ℕ → A) (base n : ℕ) (l : List A) (d : A) (i : ℕ) → base + n ≤ length l → i < n → get_or (fill f base n l) (base + i) d ≡ f i
  unfolding fill
  get_or_fill_at f base zero l d i h m = absurd (not-suc-le-zero m)
  get_or_fill_at f base (suc n) l d i h m = go (ℕ_discrete i n) (λ o. get_or_fill_at f base n l d i (omega arith) o)
    where
      len : (k : ℕ) → length (fill f base k l) ≡ length l
      len zero = refl
      len (suc k) = length-set (fill f base k l) (base + k) (f k) ∙ len k

      go : Dec (i ≡ n) → (i < n → get_or (fill f base n l) (base + i) d ≡ f i) → get_or (set (fill f base n l) (base + n) (f n)) (base + i) d ≡ f i
      go (yes e) ih =
          let b : base + n < length (fill f base n l) = omega (arith, len n) in
          rw e (get_or-set_same (fill f base n l) (base + n) (f n) d b)
      go (no o) ih =
          let q : base + i ≢ base + n = omega arith in
          get_or-set_other (fill f base n l) (base + n) (base + i) (f n) d q ∙ ih (omega arith)

  pub get_or_fill_off : (f : ℕ → A) (base n : ℕ) (l : List A) (d : A) (j : ℕ) → ((i : ℕ) → i < n → j ≢ base + i) → get_or (fill f base n l) j d ≡ get_or l j d
  unfolding fill
  get_or_fill_off f base zero l d j h = refl
  get_or_fill_off f base (suc n) l d j h =
      get_or-set_other (fill f base n l) (base + n) j (f n) d (h n (omega arith)) ∙ get_or_fill_off f base n l d j (λ i m. h i (omega arith))
