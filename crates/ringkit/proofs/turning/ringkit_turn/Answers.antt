-- The call: each clause by one law of what it answers.
use Rattle.ringkit.proofs.TurnCalls.{turn_promise, turn_only, turned_well}
use Rattle.ringkit.proofs.turning.ringkit_turn.Goals as goal

pub returns-clause-promise : goal.returns-clause-promise
returns-clause-promise c = search turn_promise

pub returns-clause-only : goal.returns-clause-only
returns-clause-only c = search turn_only

pub returns-clause-best : goal.returns-clause-best
returns-clause-best c = search turned_well
