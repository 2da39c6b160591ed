-- Links in turn: those before g have their rooms.
use Rattle.std.proofs.Common.{◌∙◌, arith, rules}
use Rattle.router.proofs.LowerSteps.{put_start, put-turn, lowered-is, put-done}
use Rattle.router.proofs.lowering.put_rooms.Goals as goal
use Rattle.router.proofs.lowering.put_rooms.Goals.{in-Level, in-Lowered}

pub loop-g-init : goal.loop-g-init
loop-g-init c = put_start _ _ _ _

pub loop-g-preserved : goal.loop-g-preserved
loop-g-preserved c =
    put-turn _ _ _ _ _ _ _ _ (search rules) c.loop-g.invariant
    (elim c.match-engine.branch [
      | in-Level w ↦ rw w.in-Level.is w.room-is
      | in-Lowered w ↦ rw w.in-Lowered.is (w.room-is ∙ lowered-is _ _ _ _ _ _ (search rules) (omega arith) (rw w.in-Lowered.is at c.loop-g.invariant) w.lowest_room-room.ensures)
    ]) c.set.ensures

pub returns : goal.returns
returns c = put-done _ _ _ _ _ _ c.loop-g-test.false c.loop-g.invariant
