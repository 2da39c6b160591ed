-- Reading a matrix: each clause by one law of the outcome (`MatrixCalls`).
use Rattle.matrix_calls.proofs.MatrixCalls.{read-matrix-promise, read-matrix-only, read-accepted, read-fits, always-read}
use Rattle.matrix_calls.proofs.ringkit_read_matrix.Goals as goal

pub returns-clause-promise : goal.returns-clause-promise
returns-clause-promise c = search read-matrix-promise

pub returns-clause-only : goal.returns-clause-only
returns-clause-only c = search read-matrix-only

pub returns-clause-accepted : goal.returns-clause-accepted
returns-clause-accepted c = search read-accepted

pub returns-clause-fits : goal.returns-clause-fits
returns-clause-fits c = search read-fits

pub returns-clause-room : goal.returns-clause-room
returns-clause-room c = search always-read
