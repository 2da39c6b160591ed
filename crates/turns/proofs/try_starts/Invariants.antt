-- `try_starts` keeps the best of the starts passed.
use Rattle.ring.specs.Sheet.{sents, demands}
use Rattle.turns.proofs.StartSteps.{Starting}
use Rattle.turns.proofs.try_starts.Given as goal

abbrev pub invariant-loop-done : goal.invariant-loop-done
invariant-loop-done g l = Starting l.n (demands (sents (g.R.Rows.rows l.initial.rows))) (g.R.Rows.rows l.rows) l.known.ways l.tried l.done
