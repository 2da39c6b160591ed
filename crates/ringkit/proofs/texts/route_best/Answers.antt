-- Routing a table by the best choice: what reading answers is what the router takes; a text that is read is a table, and any other is given its first reason.
use Rattle.std.proofs.lemmas.Result.{err_from_is_err_and}
use Rattle.table.proofs.Told.{read-range}
use Rattle.ringkit.proofs.PlanCalls.{refused-says, read-table-of}
use Rattle.ringkit.proofs.texts.route_best.Goals as goal

pub returns-in_err-ring : goal.returns-in_err-ring
returns-in_err-ring c =
    let p = err_from_is_err_and c.from_residual.result c.from_residual.ensures.1 in
    rw (p.1, p.2) (refused-says c.args.table.now _ _ c.read_table.ensures.value _ _ _ _ c.in_err-ring.was)

pub put_best-requires : goal.put_best-requires
put_best-requires c = read-range c.args.table.now _ _ c.read_table.ensures.value _ c.in_ok-ring.was

pub returns : goal.returns
returns c = c.put_best.ensures _ (read-table-of c.args.table.now _ _ c.read_table.ensures.value _ c.in_ok-ring.was)
