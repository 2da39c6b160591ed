-- `judge_parts` answers the first of all findings: those of its parts, one after the other.
use Rattle.std.proofs.lemmas.Result.{err_from_is_err_and}
use Rattle.ring.specs.Sheet.{sheet_in}
use Rattle.judge.proofs.Judging.{at-ring, at-rows, rows-fit, at-cut, at-links, carries, at-last}
use Rattle.judge.proofs.judge_parts.Goals as goal

pub returns-in_err-judge_ring : goal.returns-in_err-judge_ring
returns-in_err-judge_ring g c =
    let x = sheet_in c.args.figures (g.R.Rows.rows c.args.rows.now) c.args.links.now in
    let p = err_from_is_err_and c.from_residual.result c.from_residual.ensures.1 in
    rw (p.1, p.2) (at-ring x _ c.in_err-judge_ring.ensures)

pub returns-in_err-judge_rows : goal.returns-in_err-judge_rows
returns-in_err-judge_rows g c =
    let x = sheet_in c.args.figures (g.R.Rows.rows c.args.rows.now) c.args.links.now in
    let p = err_from_is_err_and c.from_residual-in_err-judge_rows.result c.from_residual-in_err-judge_rows.ensures.1 in
    rw (p.1, p.2) (at-rows x c.in_ok-judge_ring.ensures _ c.in_err-judge_rows.ensures)

pub judge_cut-requires : goal.judge_cut-requires
judge_cut-requires g c = rows-fit c.args.figures.ring _ c.in_ok-judge_ring.ensures c.in_ok-judge_rows.ensures

pub returns-in_err-judge_cut : goal.returns-in_err-judge_cut
returns-in_err-judge_cut g c =
    let x = sheet_in c.args.figures (g.R.Rows.rows c.args.rows.now) c.args.links.now in
    let p = err_from_is_err_and c.from_residual-in_err-judge_cut.result c.from_residual-in_err-judge_cut.ensures.1 in
    rw (p.1, p.2) (at-cut x c.in_ok-judge_ring.ensures c.in_ok-judge_rows.ensures _ c.in_err-judge_cut.ensures)

pub weigh-weight-requires : goal.weigh-weight-requires
weigh-weight-requires g c = rows-fit c.args.figures.ring _ c.in_ok-judge_ring.ensures c.in_ok-judge_rows.ensures

pub returns-in_err-judge_links : goal.returns-in_err-judge_links
returns-in_err-judge_links g c =
    let x = sheet_in c.args.figures (g.R.Rows.rows c.args.rows.now) c.args.links.now in
    let p = err_from_is_err_and c.from_residual-in_err-judge_links.result c.from_residual-in_err-judge_links.ensures.1 in
    rw (p.1, p.2) (at-links x c.in_ok-judge_ring.ensures c.in_ok-judge_rows.ensures c.in_ok-judge_cut.ensures _ c.weigh-weight.ensures _ c.in_err-judge_links.ensures)

pub judge_last-requires : goal.judge_last-requires
judge_last-requires g c =
    let x = sheet_in c.args.figures (g.R.Rows.rows c.args.rows.now) c.args.links.now in
    carries x c.in_ok-judge_ring.ensures c.in_ok-judge_rows.ensures c.in_ok-judge_cut.ensures _ c.weigh-weight.ensures

pub returns : goal.returns
returns g c =
    let x = sheet_in c.args.figures (g.R.Rows.rows c.args.rows.now) c.args.links.now in
    at-last x c.in_ok-judge_ring.ensures c.in_ok-judge_rows.ensures c.in_ok-judge_cut.ensures _ c.weigh-weight.ensures c.in_ok-judge_links.ensures _ c.largest_split.ensures _ c.judge_last.ensures
