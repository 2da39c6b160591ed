-- The end of a piece: the loop keeps that no line that starts with R begins behind the text's start and up to the place.
use Rattle.std.proofs.Common.{length, ◌-◌}
use Rattle.report.proofs.PieceSteps.{Passed}
use Rattle.report.proofs.piece.piece_end.Given as goal

abbrev pub invariant-loop-k : goal.invariant-loop-k
invariant-loop-k l = Passed l.text l.end

abbrev pub decreases-loop-k : goal.decreases-loop-k
decreases-loop-k l = length l.text - l.end
