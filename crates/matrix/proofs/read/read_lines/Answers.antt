-- The lines before this one are read, and the others are left (`ReadingLines`).
use Rattle.std.proofs.Common.{arith, sym, ◌∙◌}
use Rattle.std.proofs.lemmas.Result.{err_from_is_err_and}
use Rattle.matrix.proofs.LineSteps.{read-not, read-all}
use Rattle.matrix.proofs.ReadSteps.{missing, line-refused, amounts-wide, amounts-within, line-kept, lines-over}
use Rattle.matrix.proofs.read.read_lines.Goals as goal

pub returns-in_err-line : goal.returns-in_err-line
returns-in_err-line c =
    let p = err_from_is_err_and c.from_residual.result c.from_residual.ensures.1 in
    rw (p.1, p.2)
    (rw c.nodes-nodes.ensures.is at (missing _ _ _ _ _ c.loop-number.invariant (omega arith) c.loop-number-test.true c.in_err-line.ensures.missing.1 _ c.in_err-line.ensures.missing.0))

pub returns-in_err-amounts_on : goal.returns-in_err-amounts_on
returns-in_err-amounts_on c =
    let p = err_from_is_err_and c.from_residual-in_err-amounts_on.result c.from_residual-in_err-amounts_on.ensures.1 in
    rw (p.1, p.2)
    (rw c.nodes-nodes.ensures.is at (line-refused _ _ _ _ _ c.loop-number.invariant (omega arith) c.loop-number-test.true _ _ c.in_ok-line.ensures.read _ c.amounts_on.ensures _ (read-not _ _ _ c.in_err-amounts_on.was)))

pub put-requires-clause-width : goal.put-requires-clause-width
put-requires-clause-width c = amounts-wide _ _ _ _ c.amounts_on.ensures _ (read-all _ _ c.in_ok-amounts_on.was) ∙ sym c.loop-number.invariant.tall

pub put-requires-clause-amounts : goal.put-requires-clause-amounts
put-requires-clause-amounts c = amounts-within _ _ _ _ c.amounts_on.ensures _ (read-all _ _ c.in_ok-amounts_on.was)

pub loop-number-preserved : goal.loop-number-preserved
loop-number-preserved c =
    line-kept _ _ _ _ _ c.loop-number.invariant (omega arith) c.loop-number-test.true _ _ c.in_ok-line.ensures.read _ c.amounts_on.ensures _ (read-all _ _ c.in_ok-amounts_on.was) _ c.put.ensures

pub returns : goal.returns
returns c = rw c.nodes-nodes.ensures.is at (lines-over _ _ _ _ _ c.loop-number.invariant (omega arith) (omega arith) (omega arith) _ c.end.ensures.read c.end.ensures.left_over)
