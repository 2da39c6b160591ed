-- `raise_block` raises its numbers and nothing else: the loops' invariants are that of those passed.
use Rattle.std.proofs.Common.{◌<◌, ◌≤◌}
use Rattle.across.proofs.LineSteps.{Blocking}
use Rattle.across.proofs.lines.raise_block.Given as goal

abbrev pub invariant-loop-j : goal.invariant-loop-j
invariant-loop-j l = record { so_far : Blocking l.by l.first l.low l.high l.fn.triangle l.j 0 l.triangle; left : l.first < l.j → l.j ≤ l.end }

abbrev pub invariant-loop-i : goal.invariant-loop-i
invariant-loop-i l = record { so_far : Blocking l.by l.first l.low l.high l.fn.triangle l.j l.i l.triangle; left : l.low < l.i → l.i ≤ l.i-end }
