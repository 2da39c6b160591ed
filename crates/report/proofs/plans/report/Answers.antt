-- The report: one law of the walk at each need (`WalkSteps`).
use Rattle.report.specs.ByCheck.{checked}
use Rattle.report.proofs.WalkSteps.{walk-begins, summed, walked-on, walk-ends}
use Rattle.report.proofs.plans.report.Goals as goal

pub loop-piece-init : goal.loop-piece-init
loop-piece-init c = rw c.none-report.ensures (walk-begins checked c.args.text.now _ c.of-pieces.ensures)

pub with-report-requires-clause-small : goal.with-report-requires-clause-small
with-report-requires-clause-small c =
    summed checked c.args.text.now c.in-Some.piece.now _ _ _ c.loop-piece.invariant c.in-Some.ensures.0 c.requires c.checked.result c.checked.ensures.small

pub loop-piece-preserved : goal.loop-piece-preserved
loop-piece-preserved c =
    walked-on checked c.args.text.now c.in-Some.piece.now _ _ _ c.loop-piece.invariant c.in-Some.ensures.0 c.in-Some.ensures.1 c.checked.result
    c.checked.ensures.gives c.checked.ensures.small _ c.with-report.ensures

pub returns : goal.returns
returns c = walk-ends checked c.args.text.now _ _ c.loop-piece.invariant c.in_default.ensures.0
