-- Checking a sheet: what the checker answers (`SheetSteps`).
use Rattle.std.proofs.lemmas.Result.{err_from_is_err_and}
use Rattle.ringkit.proofs.SheetSteps.{sheet-refused, check-accepted}
use Rattle.ringkit.proofs.texts.check.Goals as goal

pub returns-in_err-check_sheet : goal.returns-in_err-check_sheet
returns-in_err-check_sheet c =
    let p = err_from_is_err_and c.from_residual.result c.from_residual.ensures.1 in
    rw (p.1, p.2) (sheet-refused c.args.sheet.now _ _ _ c.check_sheet.ensures.value _ c.in_err-check_sheet.was _)

pub returns : goal.returns
returns c = check-accepted c.args.sheet.now _ _ _ c.check_sheet.ensures.value _ c.in_ok-check_sheet.was
