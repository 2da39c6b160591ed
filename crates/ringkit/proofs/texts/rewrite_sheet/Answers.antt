-- Rewriting a sheet: what was read is the sheet that is accepted (`SheetSteps`).
use Rattle.std.proofs.Common.{rules}
use Rattle.std.proofs.lemmas.Result.{err_from_is_err_and}
use Rattle.ringkit.proofs.SheetSteps.{afresh-refused, rows-there, sheet-fills}
use Rattle.ringkit.proofs.texts.rewrite_sheet.Goals as goal

pub put_sheet-requires-clause-few_rows : goal.put_sheet-requires-clause-few_rows
put_sheet-requires-clause-few_rows c = rows-there c.args.sheet.now _ _ _ c.check_sheet.ensures.value _ c.in_ok-figures.was

pub returns-in_err-figures : goal.returns-in_err-figures
returns-in_err-figures c =
    let p = err_from_is_err_and c.from_residual.result c.from_residual.ensures.1 in
    rw (p.1, p.2) (afresh-refused c.args.sheet.now _ _ _ c.check_sheet.ensures.value _ c.in_err-figures.was _)

pub returns : goal.returns
returns c = sheet-fills c.args.sheet.now _ _ _ c.check_sheet.ensures.value _ c.in_ok-figures.was _ _ _ (search rules)
