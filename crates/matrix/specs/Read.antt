-- Internal: reading a matrix line by line, then entry by entry, each step as the code takes it; `Matrix` and `Says` and the theorems of `proofs/` pin it down.
use Rattle.std.specs.Prelude.{ℕ, zero, suc, Bool, position, ◌+◌, ◌-◌, cond, List, [], ◌∷◌, ◌++◌, ltb, eqb, length, get_or, take, Option, Some, None, Result, Ok, Err}
use Rattle.ring.specs.Limits.{Limits, desk}
use Rattle.text.specs.Bytes.{tab}
use Rattle.text.specs.ReadLine.{Reading, read_line}
use Rattle.text.specs.Shapes.{numbers}
use Rattle.lines.specs.Lines.{lines}
use Rattle.reasons.specs.Judge.{check_size}
use Rattle.reasons.specs.AndThen.{and_then}
use Rattle.lines.specs.OnLine.{values_on}
use Rattle.reasons.specs.Verdict.{Verdict, refused_at}
use Rattle.reasons.specs.declared.reason.Refusal.{Refusal}
use Rattle.reasons.specs.declared.reason.Reason.TheVariants.{TooLong, Misshapen, TooMany, TooMuch, NotZero, NotSymmetric}
use Rattle.reasons.specs.Refusals.{refuse}
use Rattle.matrix.specs.Matrix.{entry, entry_byte}
use Rattle.matrix.specs.Demands.{rows_of_matrix}

-- how many nodes there are, and the lines; or the refusal of the text
abbrev pub SquareRead : Type 0
SquareRead = Result (ℕ × List (List ℕ)) Refusal

-- what is found against what was read: nothing, or a refusal
abbrev pub MatrixVerdict : Type 0
MatrixVerdict = Result Unit Refusal

-- ---- one line

abbrev pub is_tab : ℕ → Bool
is_tab b = eqb b tab

-- fields are what tabs part
unfoldable pub fields_in : List ℕ → ℕ
fields_in [] = 1
fields_in (b ∷ t) = cond (eqb b tab) 1 0 + fields_in t

-- what is kept of a line that was read: as many numbers as the largest ring has nodes
unfoldable pub first_numbers : Reading → Reading
first_numbers (Ok vs) = Ok (take desk.nodes vs)
first_numbers (Err p) = Err p

-- how many entries stand before the first over 9,999, where one is
abbrev pub first_over : Limits → List ℕ → Option ℕ
first_over limits vs = position (λ v. ltb limits.amount v) vs

-- the numbers of a line, or 2 at its first faulty byte, 7 at its first entry over 9,999
abbrev pub Numbers : Type 0
Numbers = Result (List ℕ) Refusal

unfoldable pub unless_over : Option ℕ → ℕ → List ℕ → Numbers
unless_over None line vs = Ok vs
unless_over (Some k) line vs = refuse TooMuch line (entry_byte vs k)

unfoldable pub amounts_in : Limits → ℕ → Reading → Numbers
unfolding values_on unless_over
amounts_in limits line reading = and_then (values_on line reading) λ vs. unless_over (first_over limits vs) line vs

-- ---- the lines in order

-- `left` lines of n numbers are due in ls, of which the first has the number `line`, behind the lines m
unfoldable pub square_lines : Limits → ℕ → ℕ → ℕ → List (List ℕ) → List (List ℕ) → SquareRead
unfolding amounts_in
square_lines limits n line zero m [] = Ok (n, m)
square_lines limits n line zero m (l ∷ ls) = refuse Misshapen line 1
square_lines limits n line (suc left) m [] = refuse Misshapen line 1
square_lines limits n line (suc left) m (l ∷ ls) =
    and_then (amounts_in limits line (read_line limits.digits (numbers n) l)) λ vs. square_lines limits n (line + 1) left (m ++ vs ∷ []) ls

-- ---- the entries in order

-- 17 and 18, of the entry x at i, j whose mirror entry is y
unfoldable pub check_entry : ℕ → ℕ → ℕ → ℕ → Verdict
check_entry i j x y = cond (eqb i j) (cond (eqb x 0) (Ok tt) (Err NotZero)) (cond (eqb x y) (Ok tt) (Err NotSymmetric))

-- where the entry i, j starts in its line
abbrev pub square_byte : List (List ℕ) → ℕ → ℕ → ℕ
square_byte m i j = entry_byte (get_or m (i - 1) []) (j - 1)

-- the entries i, j and on, k of them, then what is next
unfoldable pub judge_across : List (List ℕ) → ℕ → ℕ → ℕ → MatrixVerdict → MatrixVerdict
unfolding check_entry refused_at
judge_across m i j zero next = next
judge_across m i j (suc k) next =
    and_then (refused_at (check_entry i j (entry m i j) (entry m j i)) i (square_byte m i j)) λ u. judge_across m i (j + 1) k next

-- the lines i and on, k of them, each of n entries
unfoldable pub judge_down : List (List ℕ) → ℕ → ℕ → ℕ → MatrixVerdict
unfolding judge_across
judge_down m n i zero = Ok tt
judge_down m n i (suc k) = judge_across m i 1 n (judge_down m n (i + 1) k)

-- 16, of all rows together
abbrev pub judge_count : Limits → ℕ → List (List ℕ) → MatrixVerdict
judge_count limits n m = cond (ltb limits.rows (length (rows_of_matrix n m))) (refuse TooMany 0 0) (Ok tt)

unfoldable pub square_judged : Limits → SquareRead → SquareRead
unfolding judge_down
square_judged limits x = and_then x λ s. and_then (judge_down s.1 s.0 1 s.0) λ u. and_then (judge_count limits s.0 s.1) λ w. Ok s

-- ---- the whole

-- n is the number of fields of the first line
unfoldable pub matrix_lines : Limits → List (List ℕ) → SquareRead
unfolding values_on refused_at square_lines square_judged fields_in
matrix_lines limits [] = refuse Misshapen 1 1
matrix_lines limits (l ∷ ls) =
    and_then (values_on 1 (read_line limits.digits (numbers (fields_in l)) l)) λ vs.
    and_then (refused_at (check_size limits (fields_in l)) 1 1) λ u.
    square_judged limits (square_lines limits (fields_in l) 1 (fields_in l) [] (l ∷ ls))

unfoldable pub matrix_of : Limits → List ℕ → SquareRead
unfolding matrix_lines
matrix_of limits t = cond (ltb limits.bytes (length t)) (refuse TooLong 0 0) (matrix_lines limits (lines t))
