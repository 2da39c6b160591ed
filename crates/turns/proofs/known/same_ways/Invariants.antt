-- `same_ways` goes on as long as the rows passed have the ways.
use Rattle.turns.proofs.KnownSteps.{Comparing}
use Rattle.turns.proofs.known.same_ways.Given as goal

abbrev pub invariant-loop-k : goal.invariant-loop-k
invariant-loop-k g l = Comparing (g.R.Rows.rows l.rows) l.ways l.k
