-- `settle` ends where the definition's turns end; each turn lowers the peak.
use Rattle.std.proofs.Common.{length}
use Rattle.turns.specs.Turns.{peak_of}
use Rattle.turns.specs.Settles.{Settling}
use Rattle.turns.proofs.settle.settle.Given as goal

abbrev pub invariant-loop-place : goal.invariant-loop-place
invariant-loop-place g l = Settling (length l.initial.loads) (g.R.Rows.rows l.initial.rows) (g.R.Rows.rows l.rows) l.loads l.before l.turns

abbrev pub decreases-loop-place : goal.decreases-loop-place
decreases-loop-place g l = peak_of (length l.initial.loads) (g.R.Rows.rows l.rows)
