-- Checking: each clause by one law of the reply (`SheetCalls`).
use Rattle.ringkit.proofs.SheetCalls.{check-promise, check-only, formed-checked, yes-best}
use Rattle.ringkit.proofs.texts.ringkit_check.Goals as goal

pub returns-clause-promise : goal.returns-clause-promise
returns-clause-promise c = search check-promise

pub returns-clause-only : goal.returns-clause-only
returns-clause-only c = search check-only

pub returns-clause-formed : goal.returns-clause-formed
returns-clause-formed c = search formed-checked

pub returns-clause-best : goal.returns-clause-best
returns-clause-best c = search yes-best
