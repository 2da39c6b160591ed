-- Each matrix fits where there is room for every one (`room-for-matrix`).
use Rattle.std.proofs.Common.{arith}
use Rattle.ring.specs.Sheet.{sents, demands}
use Rattle.matrix.proofs.Rooms.{room-for-matrix}
use Rattle.matrix_calls.proofs.MatrixSteps.{room-known}
use Rattle.matrix_calls.proofs.ask_matrix_room.Goals as goal

pub returns-then-matrix_bytes-buffer : goal.returns-then-matrix_bytes-buffer
returns-then-matrix_bytes-buffer g c =
    room-known _ _ (omega (arith, c.if-matrix_bytes-buffer.true, c.matrix_bytes.ensures, room-for-matrix c.args.ring _ c.requires.range c.requires.fit))
