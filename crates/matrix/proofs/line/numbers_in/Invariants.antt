-- A line of numbers: so many of its fields are left, and the next begins at `at` (`ReadingOn`).
use Rattle.matrix.proofs.LineSteps.{ReadingOn}
use Rattle.matrix.proofs.line.numbers_in.Given as goal

abbrev pub invariant-loop-left : goal.invariant-loop-left
invariant-loop-left l = ReadingOn l.text l.count l.values.items l.at l.left
