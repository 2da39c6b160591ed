-- `send_whole` is rule D: the ways so far, and those that the rule gives to what is left, are the ways of all.
use Rattle.router.proofs.WaySteps.{Choosing}
use Rattle.router.proofs.ways.send_whole.Given as goal

abbrev pub invariant-loop-k : goal.invariant-loop-k
invariant-loop-k g l = Choosing (g.R.Rows.rows l.initial.rows) (g.R.Rows.rows l.rows) l.largest l.gain l.k
