-- "From reset with any valid tree and first value, after any accepted steps in any order."
use Rattle.std.specs.Prelude.{◌≡◌, List, ℕ, eqb}
use Rattle.words.specs.Vocab.{choose}
use Rattle.rules.specs.Codes.{accepts}
use Rattle.rules.specs.Kinds.{kind_store}
use Rattle.rules.specs.Step.{reset_of, step_of}
use Rattle.rules.specs.declared.State.{State}
use Rattle.rules.specs.declared.Event.{Event}

-- the value of the last accepted store, after the event e was accepted
abbrev pub last_of : Event → ℕ → ℕ
last_of e v = choose (eqb e.kind kind_store) e.value v

-- s is reached, and v is the value of the last accepted store, or the first value
pub data Reached : State → ℕ → Type 0 where
  start : (n : ℕ) (ps : List ℕ) (v : ℕ) → (reset_of n ps v).number ≡ accepts → Reached (reset_of n ps v).state v
  next : (s : State) (v : ℕ) (e : Event) → Reached s v → (step_of s e).number ≡ accepts → Reached (step_of s e).state (last_of e v)
