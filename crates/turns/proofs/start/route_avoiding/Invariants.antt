-- `route_avoiding` routes every row: those passed are routed.
use Rattle.turns.proofs.StartSteps.{Avoiding}
use Rattle.turns.proofs.start.route_avoiding.Given as goal

abbrev pub invariant-loop-k : goal.invariant-loop-k
invariant-loop-k g l = Avoiding l.link (g.R.Rows.rows l.initial.rows) (g.R.Rows.rows l.rows) l.k
