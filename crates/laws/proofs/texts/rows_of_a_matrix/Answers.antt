-- The rows of a matrix (`rows-of-matrix-is`).
use Rattle.ring.specs.Limits.{desk}
use Rattle.matrix.proofs.RoundTrip.{rows-of-matrix-is}
use Rattle.laws.proofs.texts.rows_of_a_matrix.Goals as goal

pub returns : goal.returns
returns c = rows-of-matrix-is desk
