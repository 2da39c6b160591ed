-- To believe: which lines a text is the matrix of, what is due to a matrix that is read and to a table of which one is written, and what comes back.
use Rattle.std.specs.Prelude.{ℕ, ◌≤◌, List, ◌≡◌, length}
use Rattle.family.specs.declared.family.Family.{Family}
use Rattle.ring.specs.Limits.{desk}
use Rattle.ring.specs.LineSize.{IsFibres}
use Rattle.ring.specs.Ring.{ring_of}
use Rattle.ring.specs.declared.types.Ring.{Ring}
use Rattle.ring.specs.declared.types.Demand.{Demand}
use Rattle.table.specs.Says as table
use Rattle.table.specs.Table.{write_table}
use Rattle.reasons.specs.declared.reason.Reason.{Reason}
use Rattle.reasons.specs.declared.reason.Reason.TheVariants.{Fibres, SumTooMuch}
use Rattle.matrix.specs.Range as matrix
use Rattle.matrix.specs.Says as matrix_says
use Rattle.matrix.specs.Matrix.{write_matrix}
use Rattle.matrix.specs.Demands.{rows_of_matrix, matrix_of_rows, Passes, PassesAt, OneEach}
use Rattle.ringkit.specs.Says.{Answer, Success, CallPromise}
use Rattle.ringkit.specs.Texts.{TableOf}

-- t is the matrix of these lines, and they are in the desk's range: n lines of n numbers, symmetric, with 0 on the diagonal, that make at most 1,024 rows
pub record MatrixOf (t : List ℕ) (n : ℕ) (m : List (List ℕ)) : Type 0 where
  pub text : t ≡ write_matrix m
  pub range : matrix.InRange desk n m

-- it is one of some lines
pub record SomeMatrix (t : List ℕ) : Type 0 where
  pub n : ℕ
  pub m : List (List ℕ)
  pub of : MatrixOf t n m

-- ---- what is due

-- the text that is due to a matrix that is read on 2 or 4 fibres, of a family: the table with one row for each pair whose entry is above 0
pub record MatrixDue (fibres : ℕ) (family : Family) (t text : List ℕ) : Type 0 where
  pub two_or_four : IsFibres fibres
  pub n : ℕ
  pub m : List (List ℕ)
  pub of : MatrixOf t n m
  pub is : text ≡ write_table (ring_of n fibres family) (rows_of_matrix n m)

-- what is given to a matrix that is read: 20 first of all, with line 0 and byte 0; then the matrix's own reasons
pub data MatrixGiven (fibres : ℕ) (t : List ℕ) : Reason → ℕ → ℕ → Type 0 where
  of_fibres : (IsFibres fibres → ⊥) → MatrixGiven fibres t Fibres 0 0
  of_matrix : {reason : Reason} {line byte : ℕ} → IsFibres fibres → matrix_says.Given desk t reason line byte → MatrixGiven fibres t reason line byte

-- the text that is due to a table of which a matrix is written: rows of one pair add up, and no sum passes the limit
pub record SumsDue (t text : List ℕ) : Type 0 where
  pub ring : Ring
  pub rs : List Demand
  pub of : TableOf t ring rs
  pub fit : (k : ℕ) → Passes desk rs k → ⊥
  pub is : text ≡ write_matrix (matrix_of_rows ring.nodes rs)

-- t is a table of which a matrix is due: no sum passes the limit
pub record SumsFit (t : List ℕ) : Type 0 where
  pub ring : Ring
  pub rs : List Demand
  pub of : TableOf t ring rs
  pub fit : (k : ℕ) → Passes desk rs k → ⊥

-- what is given to a table of which a matrix is written: the table's own reasons; then 19, on the line of the first row at which a pair's sum passes 9,999, with byte 1
pub data SumsGiven (t : List ℕ) : Reason → ℕ → ℕ → Type 0 where
  of_the_table : {reason : Reason} {line byte : ℕ} → table.Given desk t reason line byte → SumsGiven t reason line byte
  of_sums : {ring : Ring} {rs : List Demand} {line : ℕ} → TableOf t ring rs → PassesAt desk rs line → SumsGiven t SumTooMuch line 1

-- ---- what the calls promise

-- reading a matrix on a ring of so many fibres, of a family: its table, or 20, or the matrix's first reason
abbrev pub ReadMatrixPromise : ℕ → Family → List ℕ → List ℕ → List ℕ → Answer → Type 0
ReadMatrixPromise fibres family t = CallPromise (MatrixDue fibres family t) (MatrixGiven fibres t)

-- writing the matrix of a table: its sums, or the table's first reason, or 19
abbrev pub WriteMatrixPromise : List ℕ → List ℕ → List ℕ → Answer → Type 0
WriteMatrixPromise t = CallPromise (SumsDue t) (SumsGiven t)

-- ---- there and back

-- matrix to table to matrix: reading a matrix wrote a table, whatever the fibres and the family; writing the matrix of that table gives, with room, the bytes of the matrix
-- that was read
abbrev pub MatrixToTableToMatrix : Type 0
MatrixToTableToMatrix =
    (fibres : ℕ) (family : Family) (t text old new : List ℕ) (r : Answer) → ReadMatrixPromise fibres family t old new r
    → Success text old new r
    → (other after : List ℕ) (q : Answer) → WriteMatrixPromise text other after q
    → length t ≤ length other → Success t other after q

-- table to matrix to table, of a table with at most one row for a pair and none of amount 0: writing its matrix wrote a text; reading that with the table's own fibres
-- and family gives, with room, the bytes of the table
abbrev pub TableToMatrixToTable : Type 0
TableToMatrixToTable =
    (t : List ℕ) (ring : Ring) (rs : List Demand) → TableOf t ring rs → OneEach rs
    → (text old new : List ℕ) (r : Answer) → WriteMatrixPromise t old new r → Success text old new r
    → (other after : List ℕ) (q : Answer) → ReadMatrixPromise ring.fibres ring.family text other after q
    → length t ≤ length other → Success t other after q
