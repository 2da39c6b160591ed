-- The first line's size, one law for each way out (`ReadSteps`).
use Rattle.std.proofs.Common.{sym, ◌∙◌, rules}
use Rattle.std.proofs.lemmas.Result.{err_from_is_err_and}
use Rattle.reasons.specs.Verdict.{refused_at}
use Rattle.matrix.proofs.LineSteps.{read-not, read-all}
use Rattle.matrix.proofs.ReadSteps.{too_long, no_line, first-misshapen, ring-fault, then-square, ring-few}
use Rattle.matrix.proofs.read.nodes_of.Goals as goal

pub returns-in_err-of-clause-refused : goal.returns-in_err-of-clause-refused
returns-in_err-of-clause-refused c =
    let p = err_from_is_err_and c.from_residual.result c.from_residual.ensures.1 in
    rw (p.1, p.2, c.in_err-of.ensures.refused.0) (too_long _ c.in_err-of.ensures.refused.1)

pub returns-in_err-first-clause-refused : goal.returns-in_err-first-clause-refused
returns-in_err-first-clause-refused c =
    let p = err_from_is_err_and c.from_residual-in_err-first.result c.from_residual-in_err-first.ensures.1 in
    rw (p.1, p.2, c.in_err-first.ensures.missing.0) (no_line _ c.in_ok-of.ensures.read.1 (sym c.in_ok-of.ensures.read.0 ∙ c.in_err-first.ensures.missing.1))

pub returns-in_err-numbers_on-clause-refused : goal.returns-in_err-numbers_on-clause-refused
returns-in_err-numbers_on-clause-refused c =
    let p = err_from_is_err_and c.from_residual-in_err-numbers_on.result c.from_residual-in_err-numbers_on.ensures.1 in
    rw (p.1, p.2)
    (first-misshapen _ c.in_ok-of.ensures.read.1 _ _ (sym c.in_ok-of.ensures.read.0 ∙ c.in_ok-first.ensures.read) _ c.tabs-count.ensures.is _ c.numbers_on.ensures _ (read-not _ _ _ c.in_err-numbers_on.was))

pub returns-in_err-map_err-clause-refused : goal.returns-in_err-map_err-clause-refused
unfolding refused_at
returns-in_err-map_err-clause-refused c =
    let p = err_from_is_err_and c.from_residual-in_err-map_err.result c.from_residual-in_err-map_err.ensures.1 in
    rw (p.1, p.2)
    (ring-fault _ c.in_ok-of.ensures.read.1 _ _ (sym c.in_ok-of.ensures.read.0 ∙ c.in_ok-first.ensures.read) _ c.tabs-count.ensures.is _ c.numbers_on.ensures _ (read-all _ _ c.in_ok-numbers_on.was) _ c.check_size.ensures c.map_err.result (search rules) _ c.in_err-map_err.was)

pub returns-clause-goes_on : goal.returns-clause-goes_on
unfolding refused_at
returns-clause-goes_on c =
    then-square _ c.in_ok-of.ensures.read.1 _ _ (sym c.in_ok-of.ensures.read.0 ∙ c.in_ok-first.ensures.read) _ c.tabs-count.ensures.is _ c.numbers_on.ensures _ (read-all _ _ c.in_ok-numbers_on.was) _ c.check_size.ensures c.map_err.result (search rules) c.in_ok-map_err.was

pub returns-clause-few : goal.returns-clause-few
unfolding refused_at
returns-clause-few c = ring-few _ _ c.check_size.ensures c.map_err.result (search rules) c.in_ok-map_err.was
