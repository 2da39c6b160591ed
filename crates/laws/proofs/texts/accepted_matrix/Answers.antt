-- Accepted matrices (`matrix-accepted`).
use Rattle.matrix_calls.proofs.MatrixCalls.{matrix-accepted}
use Rattle.laws.proofs.texts.accepted_matrix.Goals as goal

pub returns : goal.returns
returns c = matrix-accepted
