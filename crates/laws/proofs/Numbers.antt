-- "The answers carry the numbers of this table; the first that applies is given and none otherwise."
use mathlib.Core.Path.{◌≡◌, refl}
use mathlib.Core.Bool.{true, false, not}
use mathlib.Core.Logic.{◌⊎◌, inl, inr}
use mathlib.Core.List.{List, [], ◌∷◌}
use Prim.Native.Nat.{ℕ}
use borrow.Author.Tests.{eqb-true}
use lib.Dec.{eqb}
use Rattle.words.proofs.Facts.{clash, by_test}
use Rattle.rules.specs.Codes.{accepts, bad_tree}
use Rattle.rules.specs.Tree.{good_tree}
use Rattle.rules.specs.Step.{Refusal, refusal, first_of, event_refusals, refusals, answer_of, step_of, onward_of}
use Rattle.rules.specs.declared.State.{State}
use Rattle.rules.specs.declared.Event.{Event}
use Rattle.rules.specs.declared.Answer.{Answer}

-- k is the number of the first refusal of a list that applies; 0 where none applies
pub data First : List Refusal → ℕ → Type 0 where
  none : First [] accepts
  here : {r : Refusal} {rs : List Refusal} → r.applies ≡ true → First (r ∷ rs) r.number
  later : {r : Refusal} {rs : List Refusal} {k : ℕ} → r.applies ≡ false → First rs k → First (r ∷ rs) k

-- there is one such number
pub first_one : {rs : List Refusal} {k l : ℕ} → First rs k → First rs l → k ≡ l
first_one none none = refl
first_one (here a) (here b) = refl
first_one (here a) (later b g) = clash a b
first_one (later a f) (here b) = clash b a
first_one (later a f) (later b g) = first_one f g

-- k is a number of the list, or 0
abbrev pub Among : List Refusal → ℕ → Type 0
Among [] k = k ≡ accepts
Among (r ∷ rs) k = (k ≡ r.number) ⊎ Among rs k

pub first_among : {rs : List Refusal} {k : ℕ} → First rs k → Among rs k
first_among none = refl
first_among (here a) = inl refl
first_among (later a f) = inr (first_among f)

-- the definition gives that number
first_of_lem : (rs : List Refusal) → First rs (first_of rs)
unfolding first_of
first_of_lem [] = none
first_of_lem (r ∷ rs) = by_test (First (r ∷ rs)) r.applies _ _ (λ e. here e) (λ e. later e (first_of_lem rs))

-- and so does the answer, over any list of refusals
answer_first : (rs : List Refusal) (s : State) (e : Event) → First rs (answer_of (first_of rs) s e).number
unfolding answer_of
answer_first rs s e =
    by_test (λ (a : Answer). First rs a.number) (eqb (first_of rs) accepts) _ _
    (λ h. rw (eqb-true (first_of rs) accepts h) at (first_of_lem rs)) (λ _. first_of_lem rs)

-- the step gives the first number that applies
pub number_first : (s : State) (e : Event) → First (refusals s e) (step_of s e).number
unfolding step_of
number_first s e = answer_first (refusals s e) s e

-- and none otherwise
pub number_only : (s : State) (e : Event) (k : ℕ) → First (refusals s e) k → (step_of s e).number ≡ k
number_only s e k f = first_one (number_first s e) f

-- no other number is ever given
pub number_most : (s : State) (e : Event) → Among (refusals s e) (step_of s e).number
number_most s e = first_among (number_first s e)

-- the same of the step without number 2
pub onward_first : (s : State) (e : Event) → First (refusal bad_tree (not (good_tree s)) ∷ event_refusals s e) (onward_of s e).number
unfolding onward_of
onward_first s e = answer_first (refusal bad_tree (not (good_tree s)) ∷ event_refusals s e) s e
