-- "A refusal returns value 0 and the configuration unchanged, bad ones included."
use mathlib.Core.Path.{◌≡◌, refl}
use mathlib.Core.Bool.{not}
use mathlib.Core.List.{List}
use Prim.Native.Nat.{ℕ}
use lib.Dec.{eqb}
use Rattle.words.proofs.Facts.{by_test}
use Rattle.rules.specs.Codes.{accepts}
use Rattle.rules.specs.Tree.{tree_ok}
use Rattle.rules.specs.Step.{refused, blank_state, answer_of, step_of, onward_of, reset_of}
use Rattle.rules.specs.declared.State.{State}
use Rattle.rules.specs.declared.Event.{Event}
use Rattle.rules.specs.declared.Answer.{Answer}

-- an answer that, if it refuses, has value 0 and the state s
abbrev pub Untouched : State → Answer → Type 0
Untouched s a = (a.number ≡ accepts → ⊥) → a ≡ refused a.number s

pub answer_untouched : (n : ℕ) (s : State) (e : Event) → Untouched s (answer_of n s e)
unfolding answer_of
answer_untouched n s e = by_test (Untouched s) (eqb n accepts) _ _ (λ _ h. absurd (h refl)) (λ _ _. refl)

pub step_untouched : (s : State) (e : Event) → Untouched s (step_of s e)
unfolding step_of
step_untouched s e = answer_untouched _ s e

pub onward_untouched : (s : State) (e : Event) → Untouched s (onward_of s e)
unfolding onward_of
onward_untouched s e = answer_untouched _ s e

-- "Reset on a bad tree gives number 1 and an all-zero record."
pub reset_untouched : (n : ℕ) (ps : List ℕ) (v : ℕ) → Untouched blank_state (reset_of n ps v)
unfolding reset_of
reset_untouched n ps v = by_test (Untouched blank_state) (not (tree_ok n ps)) _ _ (λ _ _. refl) (λ _ h. absurd (h refl))
