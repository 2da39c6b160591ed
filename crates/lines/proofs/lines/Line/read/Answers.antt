-- The first faulty byte is within the line.
use Rattle.lines.proofs.LineSteps.{fault-within}
use Rattle.lines.proofs.lines.Line.read.Goals as goal

pub returns-clause-place : goal.returns-clause-place
returns-clause-place g c = fault-within _ _ c.self.invariant _ c.read_line.ensures
