-- The numbers before k are put (`Putting`).
use Rattle.matrix.proofs.NumbersSteps.{Putting}
use Rattle.matrix.proofs.square.entries_of.Given as goal

abbrev pub invariant-loop-k : goal.invariant-loop-k
invariant-loop-k l = Putting l.numbers.items l.entries l.k
