-- The sums of the rows before k are amounts (`JudgingSums`).
use Rattle.matrix.proofs.SumSteps.{JudgingSums}
use Rattle.matrix.proofs.sums.judge_sums.Given as goal

abbrev pub invariant-loop-k : goal.invariant-loop-k
invariant-loop-k g l = JudgingSums (g.R.Rows.rows l.rows) l.k
