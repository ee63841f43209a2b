use Rattle.trails.proofs.Starting.{no_first, with_first, first_whole}
use Rattle.trails.proofs.trail_under.Goals as goal

pub events-requires-clause-within : goal.events-requires-clause-within
events-requires-clause-within c = search first_whole

pub returns-in-Ok-clause-text : goal.returns-in-Ok-clause-text
returns-in-Ok-clause-text c = search with_first

pub returns-in-Err-clause-text : goal.returns-in-Err-clause-text
returns-in-Err-clause-text c = search no_first
