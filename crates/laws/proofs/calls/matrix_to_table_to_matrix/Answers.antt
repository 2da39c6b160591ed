-- A matrix there and back (`matrix-there-and-back`).
use Rattle.matrix_calls.proofs.MatrixCalls.{matrix-there-and-back}
use Rattle.laws.proofs.calls.matrix_to_table_to_matrix.Goals as goal

pub returns : goal.returns
returns c = matrix-there-and-back
