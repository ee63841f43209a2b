-- What is left for no kind, over the list of kinds: numbers may have gaps.
use mathlib.Core.Path.{◌≡◌, refl, ◌∙◌}
use mathlib.Core.Bool.{false}
use mathlib.Core.List.{List, [], ◌∷◌}
use Prim.Native.Nat.{ℕ}
use borrow.Author.Tests.{ne_eqb}
use lib.Dec.{eqb}
use Rattle.words.proofs.Facts.{neither, choose_false}
use Rattle.rules.specs.Table.{Kind, kinds, listed, numbered, no_kind, is_kind, kind_of}

-- a number that is none of these kinds', P before them
abbrev Missed : ℕ → Type 0 → List Kind → Type 0
Missed n P [] = P
Missed n P (k ∷ ks) = Missed n (P × (n ≡ k.number → ⊥)) ks

missed_list : (n : ℕ) (P : Type 0) (ks : List Kind) → Missed n P ks → P × (listed ks n ≡ false)
unfolding listed
missed_list n P [] r = (r, refl)
missed_list n P (k ∷ ks) r = let u = missed_list n (P × (n ≡ k.number → ⊥)) ks r in (u.0.0, rw (ne_eqb n k.number u.0.1) u.1)

-- it is no kind
pub unlisted : (n : ℕ) → Missed n (Unit {0}) kinds → is_kind n ≡ false
unlisted n r = (missed_list n (Unit {0}) kinds r).1

numbered_off : (ks : List Kind) (n : ℕ) → listed ks n ≡ false → numbered ks n ≡ no_kind
unfolding listed numbered
numbered_off [] n h = refl
numbered_off (k ∷ ks) n h = let u = neither (eqb n k.number) (listed ks n) h in choose_false _ _ u.0 ∙ numbered_off ks n u.1

pub no_kind_lem : (n : ℕ) → Missed n (Unit {0}) kinds → kind_of n ≡ no_kind
no_kind_lem n r = numbered_off kinds n (unlisted n r)
