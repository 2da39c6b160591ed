-- Writing a matrix: each clause by one law of the outcome (`MatrixCalls`).
use Rattle.matrix_calls.proofs.MatrixCalls.{write-matrix-promise, write-matrix-only, written-accepted, written-fits, always-written}
use Rattle.matrix_calls.proofs.ringkit_write_matrix.Goals as goal

pub returns-clause-promise : goal.returns-clause-promise
returns-clause-promise c = search write-matrix-promise

pub returns-clause-only : goal.returns-clause-only
returns-clause-only c = search write-matrix-only

pub returns-clause-accepted : goal.returns-clause-accepted
returns-clause-accepted c = search written-accepted

pub returns-clause-fits : goal.returns-clause-fits
returns-clause-fits c = search written-fits

pub returns-clause-room : goal.returns-clause-room
returns-clause-room c = search always-written
