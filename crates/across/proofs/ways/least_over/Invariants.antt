-- The least of the pairs passed.
use Rattle.across.proofs.WaySteps.{Lowest}
use Rattle.across.proofs.ways.least_over.Given as goal

abbrev pub invariant-loop-h : goal.invariant-loop-h
invariant-loop-h l = Lowest l.triangle l.fn.row l.h l.fn.row.first l.least

abbrev pub invariant-loop-g : goal.invariant-loop-g
invariant-loop-g l = Lowest l.triangle l.fn.row l.h l.g l.least
