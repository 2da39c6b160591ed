-- The pairs of the nodes before the first are passed (`Filling`), and of the first those with the nodes before the second (`Crossing`).
use Rattle.matrix.specs.Matrix.{entry}
use Rattle.matrix.proofs.FillSteps.{Filling, Crossing}
use Rattle.matrix.proofs.fill.fill.Given as goal

abbrev pub invariant-loop-first : goal.invariant-loop-first
invariant-loop-first l = Filling l.nodes (entry l.square) l.rows l.first

abbrev pub invariant-loop-second : goal.invariant-loop-second
invariant-loop-second l = Crossing l.nodes (entry l.square) l.rows l.first l.second
