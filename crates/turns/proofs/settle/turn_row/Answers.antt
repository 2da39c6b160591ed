-- The row is turned in the loads and in its place.
use Rattle.turns.proofs.RowsFit.{row-fits}
use Rattle.turns.proofs.TurnSteps.{turn_done}
use Rattle.turns.proofs.settle.turn_row.Goals as goal

pub whole-requires : goal.whole-requires
whole-requires g c = (row-fits _ _ c.requires.fit _ _ c.row-row.ensures).small

pub returns : goal.returns
returns g c = search turn_done
