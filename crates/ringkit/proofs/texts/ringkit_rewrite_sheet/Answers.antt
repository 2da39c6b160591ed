-- Rewriting a sheet: each clause by one law of the outcome (`SheetCalls`).
use Rattle.ringkit.proofs.SheetCalls.{rewrite-sheet-promise, rewrite-sheet-only}
use Rattle.ringkit.proofs.texts.ringkit_rewrite_sheet.Goals as goal

pub returns-clause-promise : goal.returns-clause-promise
returns-clause-promise c = search rewrite-sheet-promise

pub returns-clause-only : goal.returns-clause-only
returns-clause-only c = search rewrite-sheet-only
