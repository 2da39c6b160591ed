-- A link's turn: the largest so far, over the links before it and then over those behind it.
use Rattle.std.proofs.Common.{arith, rules}
use Rattle.router.proofs.LowerSteps.{before_start, before-turn, behind_start, behind-turn, behind-done}
use Rattle.router.proofs.lowering.lowest_room.Goals as goal

pub loop-h-init : goal.loop-h-init
loop-h-init c = search (rules, before_start)

pub loop-h-preserved : goal.loop-h-preserved
loop-h-preserved c =
    before-turn _ _ _ _ _ _ _ _ _ _ c.loop-h-test.true c.loop-h.invariant c.get.ensures (omega (arith, c.saturating_sub.ensures, c.get-in-loop-h.ensures)) c.max-largest.ensures

pub loop-h-2-init : goal.loop-h-2-init
loop-h-2-init c = search (rules, behind_start)

pub loop-h-2-preserved : goal.loop-h-2-preserved
loop-h-2-preserved c = search (rules, behind-turn)

pub returns : goal.returns
returns c = search (rules, behind-done)
