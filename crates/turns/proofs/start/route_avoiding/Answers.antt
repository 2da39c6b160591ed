-- A row more.
use Rattle.turns.proofs.StartSteps.{avoid_small, avoid_turn}
use Rattle.turns.proofs.start.route_avoiding.Goals as goal

pub whole-requires : goal.whole-requires
whole-requires g c = avoid_small _ _ _ _ _ c.row.ensures c.loop-k.invariant c.requires

pub loop-k-preserved : goal.loop-k-preserved
loop-k-preserved g c = search avoid_turn
