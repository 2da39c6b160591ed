-- What is told of the text at each way out (`ReadSteps`).
use Rattle.std.proofs.lemmas.Result.{err_from_is_err_and}
use Rattle.rows.proofs.Demands.{demands-told, unsent-told}
use Rattle.matrix.proofs.ReadSteps.{too_long, told-refusal, told-lines, told-entries, told-count, told-matrix}
use Rattle.matrix.proofs.read.read_matrix.Goals as goal

pub returns-in_err-nodes-clause-refused : goal.returns-in_err-nodes-clause-refused
returns-in_err-nodes-clause-refused c =
    let p = err_from_is_err_and c.from_residual.result c.from_residual.ensures.1 in
    rw (p.1, p.2) (told-refusal c.args.text.now _ c.in_err-nodes.ensures.refused)

pub returns-in_err-of-clause-refused : goal.returns-in_err-of-clause-refused
returns-in_err-of-clause-refused c =
    let p = err_from_is_err_and c.from_residual-in_err-of.result c.from_residual-in_err-of.ensures.1 in
    rw (p.1, p.2, c.in_err-of.ensures.refused.0) (told-refusal _ _ (too_long _ c.in_err-of.ensures.refused.1))

pub returns-in_err-read_lines-clause-refused : goal.returns-in_err-read_lines-clause-refused
returns-in_err-read_lines-clause-refused c =
    let p = err_from_is_err_and c.from_residual-in_err-read_lines.result c.from_residual-in_err-read_lines.ensures.1 in
    rw (p.1, p.2) (told-lines c.args.text.now c.in_ok-nodes.nodes c.in_ok-nodes.ensures.goes_on _ _ c.new-square.ensures _ (rw c.in_ok-of.ensures.read.0 at c.read_lines.ensures) _ c.in_err-read_lines.was)

pub returns-in_err-judge_square-clause-refused : goal.returns-in_err-judge_square-clause-refused
returns-in_err-judge_square-clause-refused c =
    let p = err_from_is_err_and c.from_residual-in_err-judge_square.result c.from_residual-in_err-judge_square.ensures.1 in
    rw (p.1, p.2) (told-entries c.args.text.now c.in_ok-nodes.nodes c.in_ok-nodes.ensures.goes_on _ _ c.new-square.ensures _ (rw c.in_ok-of.ensures.read.0 at c.read_lines.ensures) c.in_ok-read_lines.was _ c.judge_square.ensures _ c.in_err-judge_square.was)

pub returns-in_err-judge_count-clause-refused : goal.returns-in_err-judge_count-clause-refused
returns-in_err-judge_count-clause-refused c =
    let p = err_from_is_err_and c.from_residual-in_err-judge_count.result c.from_residual-in_err-judge_count.ensures.1 in
    rw (p.1, p.2) (told-count c.args.text.now c.in_ok-nodes.nodes c.in_ok-nodes.ensures.goes_on _ _ c.new-square.ensures _ (rw c.in_ok-of.ensures.read.0 at c.read_lines.ensures) c.in_ok-read_lines.was _ c.judge_square.ensures c.in_ok-judge_square.was _ c.judge_count.ensures _ c.in_err-judge_count.was)

pub returns-clause-accepted : goal.returns-clause-accepted
returns-clause-accepted c =
    told-matrix c.args.text.now c.in_ok-nodes.nodes c.in_ok-nodes.ensures.goes_on _ _ c.new-square.ensures _ (rw c.in_ok-of.ensures.read.0 at c.read_lines.ensures) c.in_ok-read_lines.was _ c.judge_square.ensures c.in_ok-judge_square.was _ c.judge_count.ensures c.in_ok-judge_count.was _
    (demands-told _ _ c.fill.ensures)

pub returns-clause-nothing_sent : goal.returns-clause-nothing_sent
returns-clause-nothing_sent c = unsent-told _ _ c.fill.ensures
