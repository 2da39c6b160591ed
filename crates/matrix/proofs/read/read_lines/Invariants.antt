-- The lines before this one are read, and the others are left (`ReadingLines`).
use Rattle.matrix.proofs.ReadSteps.{ReadingLines}
use Rattle.matrix.proofs.read.read_lines.Given as goal

abbrev pub invariant-loop-number : goal.invariant-loop-number
invariant-loop-number l = ReadingLines l.fn.lines l.nodes l.square l.number l.lines
