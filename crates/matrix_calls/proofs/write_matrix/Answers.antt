-- Writing a table's matrix: what reading answers is what the sums and the writer take, and gives the outcome each way out (`TableSteps`, `MatrixSteps`).
use Rattle.std.proofs.lemmas.Result.{err_from_is_err_and}
use Rattle.table.proofs.Told.{read-range}
use Rattle.ringkit.proofs.TableSteps.{table-refused, table-fills}
use Rattle.matrix_calls.proofs.MatrixSteps.{sums-refused, fit-judged, written-fills}
use Rattle.matrix_calls.proofs.write_matrix.Goals as goal

pub returns-in_err-ring : goal.returns-in_err-ring
returns-in_err-ring c =
    let p = err_from_is_err_and c.from_residual.result c.from_residual.ensures.1 in
    rw (p.1, p.2) (table-refused c.args.table.now _ _ c.read_table.ensures.value _ _ _ c.in_err-ring.was)

pub judge_sums-requires : goal.judge_sums-requires
judge_sums-requires c =
    let range = read-range c.args.table.now _ _ c.read_table.ensures.value _ c.in_ok-ring.was in
    record { room = range.within.count; small = range.within.amounts }

pub returns-in_err-judge_sums : goal.returns-in_err-judge_sums
returns-in_err-judge_sums c =
    let r = c.from_residual-in_err-judge_sums in
    let p = err_from_is_err_and r.result r.ensures.1 in
    rw (p.1, p.2) (table-fills c.args.table.now _ _ c.read_table.ensures.value _ _ c.in_ok-ring.was _ _ _ (sums-refused c.in_ok-ring.ring _ _ c.judge_sums.ensures _ _ c.in_err-judge_sums.was))

pub put_matrix-requires-clause-range : goal.put_matrix-requires-clause-range
put_matrix-requires-clause-range c = read-range c.args.table.now _ _ c.read_table.ensures.value _ c.in_ok-ring.was

pub put_matrix-requires-clause-fit : goal.put_matrix-requires-clause-fit
put_matrix-requires-clause-fit c = fit-judged _ _ c.judge_sums.ensures c.in_ok-judge_sums.was

pub returns : goal.returns
returns c =
    table-fills c.args.table.now _ _ c.read_table.ensures.value _ _ c.in_ok-ring.was _ _ _
    (written-fills c.in_ok-ring.ring _ _ c.judge_sums.ensures c.in_ok-judge_sums.was _ _ _ c.put_matrix.ensures)
