-- A row more, or the line that is none: it is the C line, or refused; or no line is left (`ReadSteps`).
use Rattle.std.proofs.lemmas.Result.{err_from_is_err_and}
use Rattle.sheet.proofs.ReadSteps.{row-refused, row-read, cut-read, rows-missing}
use Rattle.sheet.proofs.read.read_rows.Goals as goal

pub returns-in_err-row-in-Ok : goal.returns-in_err-row-in-Ok
returns-in_err-row-in-Ok c =
    let p = err_from_is_err_and c.from_residual.result c.from_residual.ensures.1 in
    rw (p.1, p.2)
    (row-refused _ _ _ _ c.loop-line.invariant _ c.count.ensures.is _ _ c.in-Some.ensures _ c.in-Ok.ensures.is _ c.routed_on.ensures.value _ c.in_err-row-in-Ok.was)

pub loop-line-preserved : goal.loop-line-preserved
loop-line-preserved c =
    row-read _ _ _ _ c.loop-line.invariant _ c.count.ensures.is _ _ c.in-Some.ensures _ c.in-Ok.ensures.is _ c.routed_on.ensures.value _ _ c.in_ok-row-in-Ok.was c.push.ensures

pub returns-in-Err : goal.returns-in-Err
returns-in-Err c = cut-read _ _ _ _ c.loop-line.invariant _ c.count.ensures.is _ _ c.in-Some.ensures _ c.in-Err.ensures.is _ c.cut_on.ensures

pub returns : goal.returns
returns c = rw c.misshapen.ensures (rows-missing _ _ _ _ c.loop-line.invariant _ c.count-2.ensures.is c.in_default.ensures.0)
