-- The rows of the nodes before the first are counted (`Counting`), and of the first those with the nodes before the second (`CountingOn`).
use Rattle.matrix.specs.Matrix.{entry}
use Rattle.matrix.proofs.FillSteps.{Counting, CountingOn}
use Rattle.matrix.proofs.fill.count_rows.Given as goal

abbrev pub invariant-loop-first : goal.invariant-loop-first
invariant-loop-first l = Counting l.nodes (entry l.square) l.count l.first

abbrev pub invariant-loop-second : goal.invariant-loop-second
invariant-loop-second l = CountingOn l.nodes (entry l.square) l.count l.first l.second
