-- The answer of the definitions, with its state as a configuration.
use Rattle.rules.specs.declared.Answer.{Answer}
use Rattle.model.specs.declared.Outcome.{Outcome}

abbrev pub outcome_of : Answer → Outcome
outcome_of a = record { number = a.number; value = a.value; config = record { state = a.state } }
