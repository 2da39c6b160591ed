-- The number stays small: it is a remainder before each digit.
use Rattle.std.proofs.Common.{◌<◌}
use Rattle.cases.proofs.number.Given as goal

abbrev pub invariant-loop-b : goal.invariant-loop-b
invariant-loop-b l = l.n < 100000
