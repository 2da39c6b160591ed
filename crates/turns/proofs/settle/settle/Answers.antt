-- `settle` ends where the definition's turns end; each turn lowers the peak.
use Rattle.turns.proofs.SettleSteps.{settle_start, place_within, settle_less, settle_turn, settle_done}
use Rattle.turns.proofs.settle.settle.Goals as goal

pub loop-place-init : goal.loop-place-init
loop-place-init g c = search settle_start

pub turn_row-requires-clause-place : goal.turn_row-requires-clause-place
turn_row-requires-clause-place g c = search (place_within, c.in-Some.ensures)

pub loop-place-smaller : goal.loop-place-smaller
loop-place-smaller g c = search (settle_less, c.in-Some.ensures)

pub loop-place-preserved : goal.loop-place-preserved
loop-place-preserved g c = search (settle_turn, c.in-Some.ensures)

pub returns : goal.returns
returns g c = search (settle_done, c.in_default.ensures)
