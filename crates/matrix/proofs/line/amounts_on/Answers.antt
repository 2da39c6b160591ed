-- A line is misshapen, or has an entry over the limit, or is fine (`LineSteps`).
use Rattle.std.proofs.lemmas.Result.{err_from_is_err_and}
use Rattle.matrix.proofs.LineSteps.{read-not, read-all, not-numbers, numbers-over, numbers-fine}
use Rattle.matrix.proofs.line.amounts_on.Goals as goal

pub returns-in_err-numbers_on : goal.returns-in_err-numbers_on
returns-in_err-numbers_on c =
    let p = err_from_is_err_and c.from_residual.result c.from_residual.ensures.1 in
    rw (p.1, p.2) (not-numbers _ _ _ _ c.numbers_on.ensures _ (read-not _ _ _ c.in_err-numbers_on.was))

pub returns-in-Some : goal.returns-in-Some
returns-in-Some c =
    let all = read-all _ _ c.in_ok-numbers_on.was in
    numbers-over _ _ _ _ c.numbers_on.ensures c.requires _ all _ (rw c.deref.ensures.0 at c.first_over.ensures) _ _ c.in-Some.is c.byte_of.ensures

pub returns-in-None : goal.returns-in-None
returns-in-None c =
    let all = read-all _ _ c.in_ok-numbers_on.was in
    numbers-fine _ _ _ _ c.numbers_on.ensures c.requires _ all _ (rw c.deref.ensures.0 at c.first_over.ensures) c.in-None.is
