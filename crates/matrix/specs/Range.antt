-- To believe: what a matrix can hold.
use Rattle.std.specs.Prelude.{ℕ, ◌≤◌, List, ◌≡◌, length}
use Rattle.ring.specs.Limits.{Limits}
use Rattle.ring.specs.Lists.{Each}
use Rattle.matrix.specs.Matrix.{entry, write_matrix, IsSquare, Node}
use Rattle.matrix.specs.Demands.{rows_of_matrix}

-- what a matrix can hold, within limits; it makes at most as many rows as a table has
pub record InRange (limits : Limits) (n : ℕ) (m : List (List ℕ)) : Type 0 where
  pub few : limits.fewest ≤ n
  pub many : n ≤ limits.nodes
  pub square : IsSquare n m
  pub amounts : Each (Each (λ v. v ≤ limits.amount)) m
  pub zeros : (i : ℕ) → Node n i → entry m i i ≡ 0
  pub symmetric : (i j : ℕ) → Node n i → Node n j → entry m i j ≡ entry m j i
  pub count : length (rows_of_matrix n m) ≤ limits.rows
  pub short : length (write_matrix m) ≤ limits.bytes
