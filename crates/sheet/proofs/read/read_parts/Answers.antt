-- A sheet: its length, its first line, and part by part what follows, each way out by one law of `ReadSteps`.
use Rattle.std.proofs.Common.{sym, ◌∙◌}
use Rattle.std.proofs.lemmas.Result.{err_from_is_err_and}
use Rattle.sheet.proofs.ReadSteps.{too_long, no_line, ring-refused, rows-refused, links-refused, sheet-read}
use Rattle.sheet.proofs.read.read_parts.Goals as goal

pub returns-in_err-lines : goal.returns-in_err-lines
returns-in_err-lines c =
    let p = err_from_is_err_and c.from_residual.result c.from_residual.ensures.1 in
    rw (p.1, p.2, c.in_err-lines.ensures.refused.0) (too_long _ c.in_err-lines.ensures.refused.1)

pub returns-in_err-due : goal.returns-in_err-due
returns-in_err-due c =
    let p = err_from_is_err_and c.from_residual-in_err-due.result c.from_residual-in_err-due.ensures.1 in
    rw (p.1, p.2, c.in_err-due.ensures.missing.0)
    (no_line _ c.in_ok-lines.ensures.read.1 (sym c.in_ok-lines.ensures.read.0 ∙ c.in_err-due.ensures.missing.1))

pub returns-in_err-ring : goal.returns-in_err-ring
returns-in_err-ring c =
    let p = err_from_is_err_and c.from_residual-in_err-ring.result c.from_residual-in_err-ring.ensures.1 in
    rw (p.1, p.2)
    (ring-refused _ c.in_ok-lines.ensures.read.1 _ _ (sym c.in_ok-lines.ensures.read.0 ∙ c.in_ok-due.ensures.read) _ c.ring_on.ensures.value _ c.in_err-ring.was)

pub returns-in_err-cut : goal.returns-in_err-cut
returns-in_err-cut c =
    let p = err_from_is_err_and c.from_residual-in_err-cut.result c.from_residual-in_err-cut.ensures.1 in
    rw (p.1, p.2)
    (rows-refused _ c.in_ok-lines.ensures.read.1 _ _ (sym c.in_ok-lines.ensures.read.0 ∙ c.in_ok-due.ensures.read) _ c.ring_on.ensures.value _ c.in_ok-ring.was _ _ _ c.read_rows.ensures _ c.in_err-cut.was)

pub returns-in_err-read_links : goal.returns-in_err-read_links
returns-in_err-read_links c =
    let p = err_from_is_err_and c.from_residual-in_err-read_links.result c.from_residual-in_err-read_links.ensures.1 in
    rw (p.1, p.2)
    (links-refused _ c.in_ok-lines.ensures.read.1 _ _ (sym c.in_ok-lines.ensures.read.0 ∙ c.in_ok-due.ensures.read) _ c.ring_on.ensures.value _ c.in_ok-ring.was _ _ _ c.read_rows.ensures _ c.in_ok-cut.was _ c.count.ensures.is _ _ _ c.read_links.ensures.leads _ c.in_err-read_links.was)

pub returns : goal.returns
returns c =
    sheet-read _ c.in_ok-lines.ensures.read.1 _ _ (sym c.in_ok-lines.ensures.read.0 ∙ c.in_ok-due.ensures.read) _ c.ring_on.ensures.value _ c.in_ok-ring.was _ _ _ c.read_rows.ensures _ c.in_ok-cut.was _ c.count.ensures.is _ _ _ c.read_links.ensures.leads c.in_ok-read_links.was c.in_ok-read_links.ensures.all _ c.read_last.ensures
