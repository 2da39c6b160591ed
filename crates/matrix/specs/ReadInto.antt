-- Internal: what reading a matrix answers, of what the contracts of reading are made.
use Rattle.std.specs.Prelude.{ℕ, List, ◌≡◌, length, Result, Ok}
use Rattle.ring.specs.Limits.{desk}
use Rattle.ring.specs.declared.types.Demand.{Demand}
use Rattle.reasons.specs.declared.reason.Refusal.{Refusal}
use Rattle.reasons.specs.AndThen.{and_then}
use Rattle.matrix.specs.Matrix.{write_matrix}
use Rattle.matrix.specs.Range.{InRange}
use Rattle.matrix.specs.Demands.{rows_of_matrix}
use Rattle.matrix.specs.Read.{SquareRead, MatrixVerdict}
use Rattle.matrix.specs.Says.{Given}

-- numbers of a line that were read, or what is said in their place
abbrev pub read_as : {E : Type 0} → Result Unit E → List ℕ → Result (List ℕ) E
read_as x vs = and_then x λ u. Ok vs

-- lines that were read, or the refusal
abbrev pub read_to : MatrixVerdict → List (List ℕ) → SquareRead
read_to x m = and_then x λ u. Ok (length m, m)

-- the text is a matrix of n nodes in the desk's range, and these are its rows
pub record IsMatrix (t : List ℕ) (n : ℕ) (rs : List Demand) : Type 0 where
  pub m : List (List ℕ)
  pub text : t ≡ write_matrix m
  pub range : InRange desk n m
  pub rows : rs ≡ rows_of_matrix n m

-- the refusal is the one that is given to the text
abbrev pub IsGiven : List ℕ → Refusal → Type 0
IsGiven t r = Given desk t r.reason r.line r.byte
