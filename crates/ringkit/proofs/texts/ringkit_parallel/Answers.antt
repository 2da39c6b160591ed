-- The question: each clause by one law of the reply (`SheetCalls`).
use Rattle.ringkit.proofs.SheetCalls.{parallel-promise, parallel-only}
use Rattle.ringkit.proofs.texts.ringkit_parallel.Goals as goal

pub returns-clause-promise : goal.returns-clause-promise
returns-clause-promise c = search parallel-promise

pub returns-clause-only : goal.returns-clause-only
returns-clause-only c = search parallel-only
