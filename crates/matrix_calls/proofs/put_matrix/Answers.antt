-- A matrix is written where it has room, else refused (`FillSteps`).
use Rattle.std.proofs.Common.{refl}
use Rattle.std.proofs.lemmas.Result.{err_from_is_err_and}
use Rattle.ringkit.proofs.FillSteps.{text-refused, text-fills, text-has-room}
use Rattle.matrix_calls.proofs.put_matrix.Goals as goal

pub returns-in_err-ask_matrix_room : goal.returns-in_err-ask_matrix_room
returns-in_err-ask_matrix_room g c =
    let p = err_from_is_err_and c.from_residual.result c.from_residual.ensures.1 in
    rw (p.1, p.2) (text-refused _ _ _ refl _ c.ask_matrix_room.ensures _ c.in_err-ask_matrix_room.was)

pub write_matrix-requires-clause-has_room : goal.write_matrix-requires-clause-has_room
write_matrix-requires-clause-has_room g c = text-has-room _ _ _ refl _ c.ask_matrix_room.ensures c.in_ok-ask_matrix_room.was

pub returns : goal.returns
returns g c = text-fills _ _ _ refl _ c.ask_matrix_room.ensures c.in_ok-ask_matrix_room.was _ _ c.write_matrix.ensures
