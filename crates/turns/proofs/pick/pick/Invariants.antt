-- `pick` keeps the best of the rows passed.
use Rattle.std.proofs.Common.{length}
use Rattle.turns.proofs.PickSteps.{Picking}
use Rattle.turns.proofs.pick.pick.Given as goal

abbrev pub invariant-loop-place : goal.invariant-loop-place
invariant-loop-place g l = Picking (length l.loads) (g.R.Rows.rows l.rows) l.best l.place
