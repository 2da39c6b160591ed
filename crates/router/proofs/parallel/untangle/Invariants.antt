-- `untangle` is rule C: where its loops stand, the rows behind them and the pass over what is left make up the pass over all.
use Rattle.router.proofs.PassSteps.{Firsts, Seconds}
use Rattle.router.proofs.parallel.untangle.Given as goal

abbrev pub invariant-loop-b : goal.invariant-loop-b
invariant-loop-b g l = Seconds l.n l.count (g.R.Rows.rows l.initial.rows) (g.R.Rows.rows l.rows) l.a l.b

abbrev pub invariant-loop-a : goal.invariant-loop-a
invariant-loop-a g l = Firsts l.n l.count (g.R.Rows.rows l.initial.rows) (g.R.Rows.rows l.rows) l.a
