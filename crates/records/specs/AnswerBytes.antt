-- An answer as bytes, and the places of what a reset is asked with.
use Rattle.std.specs.Prelude.{List, ◌++◌, ℕ, ◌+◌}
use Rattle.rules.specs.Codes.{node_limit}
use Rattle.rules.specs.declared.State.{State}
use Rattle.octets.specs.BigEndian.{word_size, word_bytes}
use Rattle.octets.specs.Fields.{one}
use Rattle.records.specs.Layout.{state_size}
use Rattle.records.specs.StateBytes.{state_bytes}

-- a reset: count, parents, first value
abbrev pub asked_parents : ℕ
asked_parents = 1

abbrev pub asked_first : ℕ
asked_first = asked_parents + node_limit

-- "An answer is number (1), value (8), configuration"
abbrev pub answer_size : ℕ
answer_size = 1 + word_size + state_size

unfoldable pub answer_bytes : ℕ → ℕ → State → List ℕ
answer_bytes number value s = one number ++ word_bytes value ++ state_bytes s
