-- A link more, or the line that is missing or none (`ReadSteps`).
use Rattle.std.proofs.lemmas.Result.{err_from_is_err_and}
use Rattle.sheet.proofs.ReadSteps.{link-missing, link-refused, link-read}
use Rattle.sheet.proofs.read.read_links.Goals as goal

pub returns-in_err-due-clause-leads : goal.returns-in_err-due-clause-leads
returns-in_err-due-clause-leads c =
    let p = err_from_is_err_and c.from_residual.result c.from_residual.ensures.1 in
    rw (p.1, p.2, c.in_err-due.ensures.missing.0) (link-missing _ _ _ _ _ _ c.loop-line.invariant c.in_err-due.ensures.missing.1)

pub returns-in_err-link-clause-leads : goal.returns-in_err-link-clause-leads
returns-in_err-link-clause-leads c =
    let p = err_from_is_err_and c.from_residual-in_err-link.result c.from_residual-in_err-link.ensures.1 in
    rw (p.1, p.2)
    (link-refused _ _ _ _ _ _ c.loop-line.invariant c.loop-line-test.true _ _ c.in_ok-due.ensures.read _ c.values.ensures _ c.in_err-link.was)

pub loop-line-preserved : goal.loop-line-preserved
loop-line-preserved c =
    link-read _ _ _ _ _ _ c.loop-line.invariant c.loop-line-test.true _ _ c.in_ok-due.ensures.read _ c.values.ensures _ _ c.in_ok-link.was c.push.ensures.items
