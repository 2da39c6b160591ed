-- `judge_rows`: what is given of the rows that are left is given of all.
use Rattle.std.proofs.lemmas.Result.{err_from_is_err_and}
use Rattle.ring.specs.Limits.{desk}
use Rattle.judge.proofs.Rows.{rows-on, rows-stop}
use Rattle.judge.proofs.row.judge_rows.Goals as goal

pub returns-in_err-judge_row : goal.returns-in_err-judge_row
returns-in_err-judge_row g c =
    let p = err_from_is_err_and c.from_residual.result c.from_residual.ensures.1 in
    rw (p.1, p.2) (rows-stop desk _ _ _ _ _ c.row-row.ensures c.loop-k.invariant _ c.in_err-judge_row.ensures)

pub loop-k-preserved : goal.loop-k-preserved
loop-k-preserved g c = rows-on desk _ _ _ _ _ c.row-row.ensures c.loop-k.invariant c.in_ok-judge_row.ensures
