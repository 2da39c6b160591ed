-- The sorted rows are written as a table is (`WorkSteps`); they are due to every struct, since each column has 1,024 places, and a node is a byte.
use Rattle.std.proofs.Common.{rules}
use Rattle.ringkit.proofs.WorkSteps.{rows-have-room, rows_written}
use Rattle.ringkit.proofs.WorkCalls.{work-write-promise}
use Rattle.ringkit.proofs.working.written.Goals as goal

pub put_table-requires : goal.put_table-requires
put_table-requires c = search rows-have-room

pub returns-clause-value : goal.returns-clause-value
returns-clause-value c = rows_written c.args.work.now _ c.sorted.ensures.value _ c.ring.ensures _ _ _ c.put_table.ensures

pub returns-clause-promise : goal.returns-clause-promise
returns-clause-promise c =
    work-write-promise _ (record { firsts = search rules; seconds = search rules; amounts = search rules }) c.sorted.ensures.bytes (returns-clause-value c)
