-- The digits that the kit's `decimal` promises are those of `spelled`, and how many there are.
use mathlib.Core.Path.{◌≡◌, ◌∙◌}
use mathlib.Core.List.{List, [], ◌∷◌}
use Prim.Native.Nat.{ℕ, zero, suc, ◌+◌, ◌-◌, ◌*◌, ◌/◌, ◌%◌, ◌^◌, ◌<◌, ◌≤◌, zero-le}
use native.Mathlib.Nat.{not-suc-le-zero, one-le-pow, mod-eq_of_lt, mod-lt, div-lt_iff_lt-mul, le-div_iff_mul-le, pow-le-pow_right}
use native.Mathlib.Decide.{dec_lt}
use native.Mathlib.Omega.{arith}
use borrow.Author.Tests.{lt-ltb, le-ltb}
use lib.ListN.{length, length-append, take}
use Rattle.words.specs.Vocab.{choose}
use Rattle.io.specs.Counts.{IsPrefixLen}
use Rattle.io.specs.Digits.{last_digits, IsDigitCount, hex_digit_ascii}
use Rattle.lines.specs.Lines.{spelled, decimal}

last_digit : (n : ℕ) → hex_digit_ascii (n % 10) ≡ 48 + n % 10
last_digit n = let h : n % 10 < 10 = mod-lt n (omega arith) in rw (lt-ltb (n % 10) 10 h)

ten : 0 < 10
ten = omega arith

less_one : (r : ℕ) → suc (suc r) - 1 ≡ suc r
less_one r = omega arith

one_less : (r : ℕ) → suc r - 1 ≡ r
one_less r = omega arith

-- a digit more: what is left after the last digit has one fewer
shorter : (n r : ℕ) → IsDigitCount 10 1 n (suc (suc r)) → IsDigitCount 10 1 (n / 10) (suc r)
shorter n r f =
    let low : 10 ^ (suc r) ≤ n = rw less_one at (f.2 (omega arith)) in
    let high : n < 10 ^ (suc r) * 10 = omega (arith, f.1) in
    (omega arith, (div-lt_iff_lt-mul ten).1 high, λ h. (le-div_iff_mul-le ten).1 (rw one_less (omega arith)))

pub digits_spelled : (r k n : ℕ) → r ≤ k → IsDigitCount 10 1 n r → last_digits 10 r n ≡ spelled k n
unfolding spelled choose
digits_spelled zero k n l f = absurd (not-suc-le-zero f.0)
digits_spelled (suc r) zero n l f = absurd (not-suc-le-zero l)
digits_spelled (suc zero) (suc k) n l f =
    let h : n < 10 = f.1 in
    rw (lt-ltb n 10 h, mod-eq_of_lt h, lt-ltb n 10 h)
digits_spelled (suc (suc r)) (suc k) n l f =
    let one : 1 ≤ 10 ^ r = one-le-pow r 10 (omega arith) in
    let low : 10 ^ (suc r) ≤ n = rw less_one at (f.2 (omega arith)) in
    let h : 10 ≤ n = omega arith in
    let m : suc r ≤ k = omega arith in
    rw (le-ltb n 10 h, last_digit n, ← digits_spelled (suc r) k (n / 10) m (shorter n r f))

-- a number below 10 ^ j has at most j digits
pub spelled_short : (j k n : ℕ) → 1 ≤ j → n < 10 ^ j → length (spelled k n) ≤ j
unfolding spelled choose
spelled_short j zero n o h = zero-le
spelled_short zero (suc k) n o h = absurd (not-suc-le-zero o)
spelled_short (suc zero) (suc k) n o h = let l : n < 10 = h in rw (lt-ltb n 10 l) (omega arith)
spelled_short (suc (suc j)) (suc k) n o h = go (dec_lt n 10) (λ r. spelled_short (suc j) k (n / 10) (omega arith) r)
  where
    go : Dec (n < 10) → (n / 10 < 10 ^ suc j → length (spelled k (n / 10)) ≤ suc j) → length (spelled (suc k) n) ≤ suc (suc j)
    go (yes l) ih = rw (lt-ltb n 10 l) (omega arith)
    go (no l) ih =
        let big : 10 ≤ n = omega arith in
        let rest : n / 10 < 10 ^ suc j = (div-lt_iff_lt-mul ten).1 (omega arith) in
        rw (le-ltb n 10 big, length-append) (omega (arith, ih rest))

-- a 64-bit number has at most 20 digits
few : (n r : ℕ) → IsDigitCount 10 1 n r → n < 2 ^ 64 → r ≤ 20
few n r f h = go (dec_lt 20 r)
  where
    go : Dec (20 < r) → r ≤ 20
    go (no l) = omega arith
    go (yes l) =
        let m : 20 ≤ r - 1 = omega arith in
        let p : 10 ^ 20 ≤ 10 ^ (r - 1) = pow-le-pow_right ten m in
        let q : 10 ^ (r - 1) ≤ n = f.2 (omega arith) in
        omega arith

-- what the kit's `decimal` leaves in its array is the number's text
module _ (n r : ℕ) (xs : List ℕ) (k : IsPrefixLen r xs) (f : IsDigitCount 10 1 n r) (h : n < 2 ^ 64) where
  pub digits_few : length (take r xs) ≤ 20
  digits_few = omega (arith, few n r f h, k.1)

  pub digits_text : take r xs ≡ last_digits 10 r n → take r xs ≡ decimal n
  digits_text e = e ∙ digits_spelled r 20 n (few n r f h) f

-- one digit
pub digit_text : (n : ℕ) → n < 10 → ((48 + n) ∷ []) ≡ decimal n
unfolding spelled choose
digit_text n h = rw (lt-ltb n 10 h)
