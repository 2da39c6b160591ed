-- Reading a matrix: 20 first; then what reading answers gives the outcome each way out (`MatrixSteps`).
use Rattle.std.proofs.Common.{rules}
use Rattle.std.proofs.lemmas.Result.{err_from_is_err_and}
use Rattle.reasons.specs.Verdict.{refused_at}
use Rattle.matrix_calls.proofs.MatrixSteps.{fibres-refused, matrix_refused, matrix-fills}
use Rattle.matrix_calls.proofs.read_matrix.Goals as goal

pub returns-in_err-map_err : goal.returns-in_err-map_err
unfolding refused_at
returns-in_err-map_err c =
    let p = err_from_is_err_and c.from_residual.result c.from_residual.ensures.1 in
    rw (p.1, p.2) (fibres-refused _ _ _ _ _ c.check_fibres.ensures c.map_err.result (search rules) _ c.in_err-map_err.was)

pub returns-in_err-nodes : goal.returns-in_err-nodes
unfolding refused_at
returns-in_err-nodes c =
    let p = err_from_is_err_and c.from_residual-in_err-nodes.result c.from_residual-in_err-nodes.ensures.1 in
    let why = c.in_err-nodes.ensures.refused in
    rw (p.1, p.2) (matrix_refused _ _ _ _ _ c.check_fibres.ensures c.map_err.result (search rules) c.in_ok-map_err.was _ why)

pub returns : goal.returns
unfolding refused_at
returns c =
    let is = c.in_ok-nodes.ensures.accepted in
    matrix-fills _ _ _ _ _ c.check_fibres.ensures c.map_err.result (search rules) c.in_ok-map_err.was _ _ is _ _ c.put_table.ensures
