-- To believe: what holds of the rows of all matrices at once, the contract of a function that does nothing.
use Rattle.std.specs.Prelude.{ℕ, List, ◌≡◌}
use Rattle.ring.specs.Limits.{Limits}
use Rattle.ring.specs.TableRows.{TableRows}
use Rattle.ring.specs.declared.types.Demand.{Demand}
use Rattle.matrix.specs.Demands.{rows_of_matrix, matrix_of_rows, OneEach}
use Rattle.matrix.specs.Range.{InRange}

-- rows of a table, at most one for each pair and none of amount 0, whose matrix is m
pub record RowsOf (n : ℕ) (m : List (List ℕ)) (rs : List Demand) : Type 0 where
  pub rows : TableRows n rs
  pub each : OneEach rs
  pub sums : matrix_of_rows n rs ≡ m

-- the rows of a matrix are such, and no others are
pub record OnlyRows (n : ℕ) (m : List (List ℕ)) : Type 0 where
  pub are : RowsOf n m (rows_of_matrix n m)
  pub only : (rs : List Demand) → RowsOf n m rs → rs ≡ rows_of_matrix n m

-- of every matrix in range
abbrev pub RowsOfMatrixIs : Limits → Type 0
RowsOfMatrixIs limits = (n : ℕ) (m : List (List ℕ)) → InRange limits n m → OnlyRows n m
