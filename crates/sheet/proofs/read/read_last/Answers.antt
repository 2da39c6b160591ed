-- The Z line: that it is there, its shape, and that nothing is left over (`ReadSteps`).
use Rattle.std.proofs.lemmas.Result.{err_from_is_err_and}
use Rattle.sheet.proofs.ReadSteps.{last-missing, last-refused, left_over, last_done}
use Rattle.sheet.proofs.read.read_last.Goals as goal

pub returns-in_err-due : goal.returns-in_err-due
returns-in_err-due c =
    let p = err_from_is_err_and c.from_residual.result c.from_residual.ensures.1 in
    rw (p.1, p.2, c.in_err-due.ensures.missing.0) (last-missing _ _ _ _ c.in_err-due.ensures.missing.1)

pub returns-in_err-unsplit_peak : goal.returns-in_err-unsplit_peak
returns-in_err-unsplit_peak c =
    let p = err_from_is_err_and c.from_residual-in_err-unsplit_peak.result c.from_residual-in_err-unsplit_peak.ensures.1 in
    rw (p.1, p.2) (last-refused _ _ _ _ _ _ c.in_ok-due.ensures.read _ c.values.ensures _ c.in_err-unsplit_peak.was)

pub returns-in_err-end : goal.returns-in_err-end
returns-in_err-end c =
    let p = err_from_is_err_and c.from_residual-in_err-end.result c.from_residual-in_err-end.ensures.1 in
    rw (p.1, p.2, c.in_err-end.ensures.left_over.0)
    (left_over _ _ _ _ _ _ c.in_ok-due.ensures.read _ c.values.ensures _ c.in_ok-unsplit_peak.was c.in_err-end.ensures.left_over.1)

pub returns : goal.returns
returns c = last_done _ _ _ _ _ _ c.in_ok-due.ensures.read _ c.values.ensures _ c.in_ok-unsplit_peak.was c.in_ok-end.ensures.read
