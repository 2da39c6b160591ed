-- The sum stays small: it is a remainder before each step.
use Rattle.std.proofs.Common.{◌<◌}
use Rattle.cases.proofs.sum_of.Given as goal

abbrev pub invariant-loop-b : goal.invariant-loop-b
invariant-loop-b l = l.sum < 1000003
