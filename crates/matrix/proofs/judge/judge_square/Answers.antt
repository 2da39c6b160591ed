-- The lines before i are fine (`Down`), and of line i the entries before j (`Across`).
use Rattle.std.proofs.Common.{rules, arith}
use Rattle.std.proofs.lemmas.Result.{err_from_is_err_and}
use Rattle.reasons.specs.Verdict.{refused_at}
use Rattle.matrix.proofs.JudgeSteps.{line-begins, entry-faulty, entry-fine, line-fine, all-fine}
use Rattle.matrix.proofs.judge.judge_square.Goals as goal

pub loop-j-init : goal.loop-j-init
loop-j-init c = search (line-begins, rules)

pub returns-in_err-map_err : goal.returns-in_err-map_err
unfolding refused_at
returns-in_err-map_err c =
    let p = err_from_is_err_and c.from_residual.result c.from_residual.ensures.1 in
    rw (p.1, p.2) (entry-faulty _ _ _ _ c.loop-j.invariant (omega (arith, c.loop-j-test.true, c.nodes-nodes.ensures.is)) _ _ c.get.ensures c.get-in-loop-j.ensures _ c.check_entry.ensures c.map_err.result (search rules) _ c.in_err-map_err.was)

pub loop-j-preserved : goal.loop-j-preserved
unfolding refused_at
loop-j-preserved c = entry-fine _ _ _ _ c.loop-j.invariant (omega (arith, c.loop-j-test.true, c.nodes-nodes.ensures.is)) _ _ c.get.ensures c.get-in-loop-j.ensures _ c.check_entry.ensures c.map_err.result (search rules) c.in_ok-map_err.was

pub loop-i-preserved : goal.loop-i-preserved
loop-i-preserved c = search (line-fine, rules)

pub returns : goal.returns
returns c = search (all-fine, rules)
