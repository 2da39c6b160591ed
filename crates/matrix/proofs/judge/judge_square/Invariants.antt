-- The lines before i are fine (`Down`), and of line i the entries before j (`Across`).
use Rattle.std.proofs.Common.{length}
use Rattle.matrix.proofs.JudgeSteps.{Down, Across}
use Rattle.matrix.proofs.judge.judge_square.Given as goal

abbrev pub invariant-loop-i : goal.invariant-loop-i
invariant-loop-i l = Down l.square (length l.square) l.i-counter

abbrev pub invariant-loop-j : goal.invariant-loop-j
invariant-loop-j l = Across l.square (length l.square) l.i l.j-counter
