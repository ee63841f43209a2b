-- "Where an answer is an enum, a definition sets out this paper's number and values for each of its cases": what the code answers as a
-- Result, in the numbers of the table.
use Rattle.std.specs.Prelude.{ℕ, Result, Ok, Err}
use Rattle.rules.specs.Codes.{accepts, bad_tree, not_a_configuration, bad_event, wrong_place, out_of_turn}
use Rattle.rules.specs.Step.{accepted, refused, blank_state}
use Rattle.rules.specs.declared.State.{State}
use Rattle.rules.specs.declared.Answer.{Answer}
use Rattle.rules.specs.declared.Refusal.{Refusal}
use Rattle.rules.specs.declared.Refusal.TheVariants.{BadTree, NotAConfiguration, BadEvent, WrongPlace, OutOfTurn}

abbrev pub number_of : Refusal → ℕ
number_of BadTree = bad_tree
number_of NotAConfiguration = not_a_configuration
number_of BadEvent = bad_event
number_of WrongPlace = wrong_place
number_of OutOfTurn = out_of_turn

-- the first number that applies
abbrev pub number_said : {A : Type 0} → Result A Refusal → ℕ
number_said (Ok v) = accepts
number_said (Err r) = number_of r

-- "The answer value is the load's, else 0. .. A refusal returns value 0"
abbrev pub value_said : Result ℕ Refusal → ℕ
value_said (Ok v) = v
value_said (Err r) = 0

-- the answer of an event that left the configuration s
abbrev pub answer_said : Result ℕ Refusal → State → Answer
answer_said r s = record { number = number_said r; value = value_said r; state = s }

-- the answer of a reset
abbrev pub reset_said : Result State Refusal → Answer
reset_said (Ok s) = accepted 0 s
reset_said (Err r) = refused (number_of r) blank_state
