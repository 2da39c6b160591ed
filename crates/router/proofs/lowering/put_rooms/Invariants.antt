-- Links in turn: those before g have their rooms.
use Rattle.router.proofs.LowerSteps.{Putting}
use Rattle.router.proofs.lowering.put_rooms.Given as goal

abbrev pub invariant-loop-g : goal.invariant-loop-g
invariant-loop-g l = Putting l.engine l.most l.n l.initial.triangle l.triangle l.g
