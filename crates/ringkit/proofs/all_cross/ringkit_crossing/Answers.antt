-- The call: each clause by one law of what it answers.
use Rattle.ringkit.proofs.CrossingCalls.{crossing-promise, crossing-only, within-bound}
use Rattle.ringkit.proofs.all_cross.ringkit_crossing.Goals as goal

pub returns-clause-promise : goal.returns-clause-promise
returns-clause-promise c = crossing-promise _ _ c.ask.ensures

pub returns-clause-only : goal.returns-clause-only
returns-clause-only c = crossing-only _ _ c.ask.ensures

pub returns-clause-bound : goal.returns-clause-bound
returns-clause-bound c = within-bound _ _ c.ask.ensures
