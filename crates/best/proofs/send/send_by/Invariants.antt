-- The ways so far, and those that what is left of the choice gives to the rows left, are the ways of all.
use Rattle.best.proofs.SendSteps.{Sending}
use Rattle.best.proofs.send.send_by.Given as goal

abbrev pub invariant-loop-k : goal.invariant-loop-k
invariant-loop-k g l = Sending (g.R.Rows.rows l.initial.rows) (g.R.Rows.rows l.rows) l.choice l.left l.k
