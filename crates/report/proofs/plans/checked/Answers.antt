-- What a piece gives: the checker's answer (`CheckSteps`).
use Rattle.std.proofs.Common.{arith}
use Rattle.report.specs.Totals.{peak_of}
use Rattle.report.proofs.CheckSteps.{gives-plan, gives-none, piece-small}
use Rattle.report.proofs.plans.checked.Goals as goal

pub returns-in-Ok-clause-gives : goal.returns-in-Ok-clause-gives
returns-in-Ok-clause-gives c = gives-plan _ _ _ c.args.piece.now c.check_sheet.ensures.value _ c.in-Ok.is

pub returns-in-Ok-clause-small : goal.returns-in-Ok-clause-small
returns-in-Ok-clause-small c =
    let e = gives-plan _ _ _ c.args.piece.now c.check_sheet.ensures.value _ c.in-Ok.is in rw e (piece-small c.args.piece.now)

pub returns-in-Err-clause-gives : goal.returns-in-Err-clause-gives
returns-in-Err-clause-gives c = gives-none _ _ _ c.args.piece.now c.check_sheet.ensures.value _ c.in-Err.is

pub returns-in-Err-clause-small : goal.returns-in-Err-clause-small
unfolding peak_of
returns-in-Err-clause-small c = omega arith
