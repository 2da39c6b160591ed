-- Rewriting a table: what reading answers gives the outcome, and the outcome each way out (`TableSteps`).
use Rattle.std.proofs.lemmas.Result.{err_from_is_err_and}
use Rattle.ringkit.proofs.TableSteps.{table-refused, rows-have-room, table-fills}
use Rattle.ringkit.proofs.texts.rewrite_table.Goals as goal

pub returns-in_err-ring : goal.returns-in_err-ring
returns-in_err-ring c =
    let p = err_from_is_err_and c.from_residual.result c.from_residual.ensures.1 in
    rw (p.1, p.2) (table-refused c.args.table.now _ _ c.read_table.ensures.value _ _ _ c.in_err-ring.was)

pub put_table-requires : goal.put_table-requires
put_table-requires c = rows-have-room c.args.table.now _ _ c.read_table.ensures.value _ c.in_ok-ring.was

pub returns : goal.returns
returns c = table-fills c.args.table.now _ _ c.read_table.ensures.value _ _ c.in_ok-ring.was _ _ _ c.put_table.ensures
