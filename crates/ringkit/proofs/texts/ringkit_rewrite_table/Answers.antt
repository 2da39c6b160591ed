-- Rewriting a table: each clause by one law of the outcome (`TableCalls`).
use Rattle.ringkit.proofs.TableCalls.{rewrite-promise, rewrite-only}
use Rattle.ringkit.proofs.texts.ringkit_rewrite_table.Goals as goal

pub returns-clause-promise : goal.returns-clause-promise
returns-clause-promise c = search rewrite-promise

pub returns-clause-only : goal.returns-clause-only
returns-clause-only c = search rewrite-only
