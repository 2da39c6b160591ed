-- Each way on and each way out is one law of `ReadSteps`.
use Rattle.std.proofs.Common.{List, ap, arith, sym, ◌∙◌, rules}
use Rattle.std.proofs.lemmas.Result.{err_from_is_err_and}
use Rattle.ring.specs.declared.types.Routed.{Routed}
use Rattle.ring.specs.Sheet.{sents, demands}
use Rattle.ring.proofs.Small.{demands-length}
use Rattle.rows.proofs.Demands.{demands-more, unsent-more}
use Rattle.table.proofs.ReadSteps.{none-sent, too_long, no_line, ring-refused, ring-read, row-refused, room, row-read, all_read}
use Rattle.table.proofs.read.read_lines.Goals as goal

pub returns-in_err-lines-clause-value : goal.returns-in_err-lines-clause-value
returns-in_err-lines-clause-value c =
    let p = err_from_is_err_and c.from_residual.result c.from_residual.ensures.1 in
    rw (p.1, p.2, c.in_err-lines.ensures.refused.0) (too_long _ c.in_err-lines.ensures.refused.1)

pub returns-in_err-due-clause-value : goal.returns-in_err-due-clause-value
returns-in_err-due-clause-value c =
    let p = err_from_is_err_and c.from_residual-in_err-due.result c.from_residual-in_err-due.ensures.1 in
    rw (p.1, p.2, c.in_err-due.ensures.missing.0) (no_line _ c.in_ok-lines.ensures.read.1 (sym c.in_ok-lines.ensures.read.0 ∙ c.in_err-due.ensures.missing.1))

pub returns-in_err-ring-clause-value : goal.returns-in_err-ring-clause-value
returns-in_err-ring-clause-value c =
    let p = err_from_is_err_and c.from_residual-in_err-ring.result c.from_residual-in_err-ring.ensures.1 in
    ring-refused _ c.in_ok-lines.ensures.read.1 _ _ (sym c.in_ok-lines.ensures.read.0 ∙ c.in_ok-due.ensures.read) _ c.ring_on.ensures.value _ _ _ c.in_err-ring.was (rw (p.1, p.2))

pub loop-line-init : goal.loop-line-init
loop-line-init c = (
  none-sent _ (search rules),
  ring-read _ c.in_ok-lines.ensures.read.1 _ _ (sym c.in_ok-lines.ensures.read.0 ∙ c.in_ok-due.ensures.read) _ c.ring_on.ensures.value _ c.in_ok-ring.was _ (search rules),
)

pub returns-in_err-row-clause-value : goal.returns-in_err-row-clause-value
returns-in_err-row-clause-value c =
    let p = err_from_is_err_and c.from_residual-in_err-row.result c.from_residual-in_err-row.ensures.1 in
    row-refused _ _ _ _ c.loop-line.invariant.1 _ _ c.in-Some.ensures _ c.row_on.ensures _ _ _ c.in_err-row.was (rw (p.1, p.2))

pub push_unsent-requires : goal.push_unsent-requires
push_unsent-requires c =
    let l = demands-length c.loop-line.rows in
    omega (arith, room _ _ _ _ c.loop-line.invariant.1 _ _ c.in-Some.ensures _ c.row_on.ensures _ c.in_ok-row.was)

pub loop-line-preserved : goal.loop-line-preserved
loop-line-preserved c = (
  unsent-more _ _ _ c.loop-line.invariant.0 c.push_unsent.ensures,
  row-read _ _ _ _ c.loop-line.invariant.1 _ _ c.in-Some.ensures _ c.row_on.ensures _ _ c.in_ok-row.was
      (ap (λ (l : List Routed). demands (sents l)) c.push_unsent.ensures ∙ demands-more _ _),
)

pub returns-clause-value : goal.returns-clause-value
returns-clause-value c = all_read _ _ _ _ c.loop-line.invariant.1 c.in_default.ensures.0
