-- A table there and back over its matrix (`table-there-and-back`).
use Rattle.matrix_calls.proofs.MatrixCalls.{table-there-and-back}
use Rattle.laws.proofs.calls.table_to_matrix_to_table.Goals as goal

pub returns : goal.returns
returns c = table-there-and-back
