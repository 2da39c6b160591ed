-- `judge_rows`: what is given of the rows that are left is given of all.
use Rattle.ring.specs.Limits.{desk}
use Rattle.judge.proofs.Rows.{RowsLeft}
use Rattle.judge.proofs.row.judge_rows.Given as goal

abbrev pub invariant-loop-k : goal.invariant-loop-k
invariant-loop-k g l = RowsLeft desk l.nodes (g.R.Rows.rows l.rows) l.above l.k
