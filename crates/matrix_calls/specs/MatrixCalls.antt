-- Internal: the outcome of the calls that read or write a matrix: the text's refusals, and of a table 19 (then 15); or the text that is due.
use Rattle.std.specs.Prelude.{ℕ, List, Ok}
use Rattle.family.specs.declared.family.Family.{Family}
use Rattle.ring.specs.Limits.{desk}
use Rattle.ring.specs.Ring.{ring_of}
use Rattle.ring.specs.declared.types.Ring.{Ring}
use Rattle.ring.specs.declared.types.Demand.{Demand}
use Rattle.reasons.specs.AndThen.{and_then}
use Rattle.reasons.specs.Judge.{check_fibres}
use Rattle.reasons.specs.Verdict.{refused_at}
use Rattle.table.specs.Table.{write_table}
use Rattle.table.specs.ReadTable.{table_of}
use Rattle.matrix.specs.Matrix.{write_matrix}
use Rattle.matrix.specs.Demands.{rows_of_matrix, matrix_of_rows}
use Rattle.matrix.specs.Read.{SquareRead, matrix_of}
use Rattle.matrix.specs.Judged.{judge_sums}
use Rattle.ringkit.specs.Outcome.{Outcome}

-- the table of a matrix on a ring of so many fibres, of a family
unfoldable pub table_of_matrix : ℕ → Family → SquareRead → Outcome
table_of_matrix fibres family m = and_then m λ s. Ok (write_table (ring_of s.0 fibres family) (rows_of_matrix s.0 s.1))

-- reading a matrix and writing its table: 20 is tried first of all, and refuses the call as a whole
unfoldable pub matrix_read : ℕ → Family → List ℕ → Outcome
unfolding table_of_matrix check_fibres refused_at
matrix_read fibres family t = and_then (refused_at (check_fibres fibres) 0 0) λ u. table_of_matrix fibres family (matrix_of desk t)

-- the matrix of a table's rows; or 19, where a pair's sum passes the limit
abbrev pub matrix_of_table : Ring → List Demand → Outcome
matrix_of_table ring rs = and_then (judge_sums desk rs) λ u. Ok (write_matrix (matrix_of_rows ring.nodes rs))

-- reading a table and writing its matrix
abbrev pub matrix_written : List ℕ → Outcome
matrix_written t = and_then (table_of desk t) λ x. matrix_of_table x.0 x.1
