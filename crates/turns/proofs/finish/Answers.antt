-- The turns before the ways are noted, and those behind.
use Rattle.turns.proofs.SettleSteps.{then_settles}
use Rattle.turns.proofs.finish.Goals as goal

pub returns-clause-settles : goal.returns-clause-settles
returns-clause-settles g c = then_settles _ _ _ _ _ _ _ c.settle-so_far.ensures _ _ _ c.settle-turns.ensures
