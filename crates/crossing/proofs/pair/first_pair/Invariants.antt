-- `first_pair` is the first pair: where its scans stand, the answer over the rows that are left is the answer over all.
use Rattle.crossing.proofs.PairSteps.{Firsts, Seconds}
use Rattle.crossing.proofs.pair.first_pair.Given as goal

abbrev pub invariant-loop-b : goal.invariant-loop-b
invariant-loop-b g l = Seconds (g.R.Rows.rows l.rows) l.one l.found l.a l.b

abbrev pub invariant-search : goal.invariant-search
invariant-search g l = Firsts (g.R.Rows.rows l.rows) l.found l.a
