-- Checking a text: each way out by what reading and judging answer (`CheckSteps`).
use Rattle.std.proofs.lemmas.Result.{err_from_is_err_and}
use Rattle.checker.proofs.CheckSteps.{read-refused, links-there, fine-so, found-so}
use Rattle.checker.proofs.check.check_sheet.Goals as goal

pub returns-in_err-figures-clause-value : goal.returns-in_err-figures-clause-value
returns-in_err-figures-clause-value c =
    let p = err_from_is_err_and c.from_residual.result c.from_residual.ensures.1 in
    rw (p.1, p.2) (read-refused c.args.text.now _ _ _ c.read_sheet.ensures.value _ c.in_err-figures.was)

pub line_of-line-requires-clause-links : goal.line_of-line-requires-clause-links
line_of-line-requires-clause-links c = links-there c.args.text.now _ _ _ c.read_sheet.ensures.value _ c.in_ok-figures.was

pub returns-in-Ok-clause-value : goal.returns-in-Ok-clause-value
returns-in-Ok-clause-value c = fine-so c.args.text.now _ _ _ c.read_sheet.ensures.value _ c.in_ok-figures.was _ c.as_slice.ensures.value _ c.judge.ensures.first _ c.in-Ok.is

pub returns-in-Err-clause-value : goal.returns-in-Err-clause-value
returns-in-Err-clause-value c =
    found-so c.args.text.now _ _ _ c.read_sheet.ensures.value _ c.in_ok-figures.was _ c.as_slice.ensures.value _ c.judge.ensures.first _ c.in-Err.is _ _ _
    c.count.ensures.is c.line_of-line.ensures c.min.ensures
