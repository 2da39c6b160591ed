-- A link's turn: the largest so far, over the links before it and then over those behind it.
use Rattle.across.specs.Cells.{cell}
use Rattle.router.specs.Lowering.{room_on}
use Rattle.router.proofs.LowerSteps.{Before, Behind}
use Rattle.router.proofs.lowering.lowest_room.Given as goal

abbrev pub invariant-loop-h : goal.invariant-loop-h
invariant-loop-h l = Before (cell l.triangle) l.most l.n (room_on l.triangle) l.g l.largest l.h

abbrev pub invariant-loop-h-2 : goal.invariant-loop-h-2
invariant-loop-h-2 l = Behind (cell l.triangle) l.most l.n (room_on l.triangle) l.g l.largest l.h
