-- `loads_avoiding` gives each link its load: those of the links passed.
use Rattle.turns.proofs.StartSteps.{Loading}
use Rattle.turns.proofs.start.loads_avoiding.Given as goal

abbrev pub invariant-loop-k : goal.invariant-loop-k
invariant-loop-k l = Loading l.triangle l.link l.n l.load-items l.k
