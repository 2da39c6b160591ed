-- The report: the loop keeps `Walked`, that the report so far, with what is left, is that of the text.
use Rattle.std.proofs.Common.{length}
use Rattle.report.specs.ByCheck.{checked}
use Rattle.report.proofs.WalkSteps.{Walked}
use Rattle.report.proofs.plans.report.Given as goal

abbrev pub invariant-loop-piece : goal.invariant-loop-piece
invariant-loop-piece l = Walked checked l.text l.pieces l.report

abbrev pub decreases-loop-piece : goal.decreases-loop-piece
decreases-loop-piece l = length l.pieces
