-- The first faulty byte is within the line.
use Rattle.lines.proofs.LineSteps.{ring-fault-within}
use Rattle.lines.proofs.lines.Line.read_ring.Goals as goal

pub returns-clause-place : goal.returns-clause-place
returns-clause-place c = ring-fault-within _ c.self.invariant _ c.read_ring.ensures
