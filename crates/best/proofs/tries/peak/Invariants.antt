-- The largest load of the links passed is kept.
use Rattle.std.proofs.Common.{◌≡◌}
use Rattle.ring.specs.Routing.{peak}
use Rattle.weight.specs.LinkSteps.{link_at}
use Rattle.best.proofs.tries.peak.Given as goal

abbrev pub invariant-loop-load : goal.invariant-loop-load
invariant-loop-load l = l.most ≡ peak (link_at l.loads) l.load-index
