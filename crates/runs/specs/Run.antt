-- A run of the code: an accepted answer of `Config::reset`, and then accepted answers of `Config::step` or `Config::onward`, each
-- asked of the configuration before. Of an answer nothing is known but its promise.
use Rattle.std.specs.Prelude.{◌≡◌, List, ℕ}
use Rattle.rules.specs.Codes.{accepts}
use Rattle.rules.specs.Step.{reset_of, step_of, onward_of}
use Rattle.rules.specs.declared.Event.{Event}
use Rattle.coherence.specs.Reached.{last_of}
use Rattle.model.specs.Outcomes.{outcome_of}
use Rattle.model.specs.declared.Config.{Config}
use Rattle.model.specs.declared.Outcome.{Outcome}

-- c is reached by a run of the code, and v is the value of its last accepted store, or the first value
pub data Run : Config → ℕ → Type 0 where
  by_reset : (n : ℕ) (ps : List ℕ) (v : ℕ) (a : Outcome) → a ≡ outcome_of (reset_of n ps v) → a.number ≡ accepts → Run a.config v
  by_step : (c : Config) (v : ℕ) (e : Event) (a : Outcome) → Run c v → a ≡ outcome_of (step_of c.state e) → a.number ≡ accepts → Run a.config (last_of e v)
  by_onward : (c : Config) (v : ℕ) (e : Event) (a : Outcome) → Run c v → a ≡ outcome_of (onward_of c.state e) → a.number ≡ accepts → Run a.config (last_of e v)
