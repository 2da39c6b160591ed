-- The sums of the rows before k are amounts (`JudgingSums`).
use Rattle.std.proofs.Common.{arith}
use Rattle.matrix.proofs.SumSteps.{judging-sums-starts, sum-passes, sum-fine, sums-judged}
use Rattle.matrix.proofs.sums.judge_sums.Goals as goal

pub loop-k-init : goal.loop-k-init
loop-k-init g c = judging-sums-starts _

pub returns-then-sum_of-gt-AMOUNT : goal.returns-then-sum_of-gt-AMOUNT
returns-then-sum_of-gt-AMOUNT g c = sum-passes (g.R.Rows.rows c.args.rows.now) _ c.loop-k.invariant _ c.row.ensures _ c.sum_of.ensures (omega arith)

pub loop-k-preserved : goal.loop-k-preserved
loop-k-preserved g c = sum-fine (g.R.Rows.rows c.args.rows.now) _ c.loop-k.invariant _ c.row.ensures _ c.sum_of.ensures (omega arith)

pub returns : goal.returns
returns g c = sums-judged (g.R.Rows.rows c.args.rows.now) _ c.loop-k.invariant (omega arith)
