-- The step without the scan for number 2: on configurations it is the step, and it keeps the tree.
use mathlib.Core.Path.{◌≡◌}
use mathlib.Core.Bool.{true}
use Rattle.words.specs.Vocab.{choose}
use Rattle.words.proofs.Facts.{by_test}
use Rattle.rules.specs.Tree.{good_tree}
use Rattle.rules.specs.Configuration.{configuration_ok}
use Rattle.rules.specs.Step.{next_of, first_of, answer_of, step_of, onward_of}
use Rattle.rules.specs.declared.State.{State}
use Rattle.rules.specs.declared.Event.{Event}
use Rattle.rules.specs.declared.Answer.{Answer}

pub step_is_onward : (s : State) (e : Event) → configuration_ok s ≡ true → step_of s e ≡ onward_of s e
unfolding step_of onward_of first_of choose
step_is_onward s e h = rw h

pub onward_tree : (s : State) (e : Event) → good_tree s ≡ true → good_tree (onward_of s e).state ≡ true
unfolding onward_of answer_of next_of
onward_tree s e h = by_test (λ (a : Answer). good_tree a.state ≡ true) _ _ _ (λ _. h) (λ _. h)
