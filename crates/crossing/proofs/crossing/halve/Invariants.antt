-- The rows passed are halved, and the others as they were.
use Rattle.crossing.proofs.Steps.{Halving}
use Rattle.crossing.proofs.crossing.halve.Given as goal

abbrev pub invariant-loop-k : goal.invariant-loop-k
invariant-loop-k g l = Halving (g.R.Rows.rows l.initial.rows) (g.R.Rows.rows l.rows) l.k
