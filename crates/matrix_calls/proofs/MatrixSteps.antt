-- Reading a matrix and writing its table, and writing a table's matrix: what reading said is what the writer asks for, and gives the outcome each way out of the call.
use Prim.Native.Nat.{ℕ, ◌≤◌}
use mathlib.Core.List.{List}
use mathlib.Core.Path.{◌≡◌, refl, sym, ◌∙◌}
use native.Mathlib.Omega.{arith}
use lib.ListN.{length}
use borrow.Author.Tests.{le-ltb}
use Rattle.std.specs.Prelude.{Ok, Err}
use Rattle.ring.specs.Limits.{desk}
use Rattle.family.specs.declared.family.Family.{Family}
use Rattle.ring.specs.Ring.{ring_of}
use Rattle.ring.specs.declared.types.Ring.{Ring}
use Rattle.ring.specs.declared.types.Demand.{Demand}
use Rattle.ring.specs.declared.types.Routed.{Routed}
use Rattle.ring.specs.Sheet.{sents, demands}
use Rattle.ring.proofs.Small.{demands-length}
use Rattle.reasons.specs.AndThen.{and_then}
use Rattle.reasons.specs.Judge.{check_fibres}
use Rattle.reasons.specs.Verdict.{Verdict, refused_at}
use Rattle.table.specs.Table.{write_table}
use Rattle.reasons.specs.declared.reason.Refusal.{Refusal}
use Rattle.matrix.specs.Matrix.{write_matrix}
use Rattle.matrix.specs.Demands.{matrix_of_rows, Passes}
use Rattle.matrix.specs.Read.{MatrixVerdict, matrix_of}
use Rattle.matrix.specs.Judged.{judge_sums}
use Rattle.matrix.specs.ReadInto.{IsMatrix, IsGiven}
use Rattle.matrix.proofs.MatrixText.{desk-possible, matrix-text}
use Rattle.matrix.proofs.ReasonsGiven.{given}
use Rattle.matrix.proofs.SumsGiven.{SumsJudged, sums_pass, sums_fit, sums-judged}
use Rattle.ringkit.specs.Says.{Answer}
use Rattle.ringkit.specs.Outcome.{ask_room, Fills}
use Rattle.matrix_calls.specs.MatrixCalls.{table_of_matrix, matrix_read, matrix_of_table}
use Rattle.ringkit.proofs.FillSteps.{refuses, same-fills}

-- ---- reading a matrix, on a ring of so many fibres

module _ (s old : List ℕ) (fibres : ℕ) (family : Family) (v : Verdict) (ev : v ≡ check_fibres fibres) (found : MatrixVerdict) (ef : found ≡ refused_at v 0 0) where
  read-is : matrix_read fibres family s ≡ and_then found (λ u. table_of_matrix fibres family (matrix_of desk s))
  unfolding matrix_read
  read-is = rw (ef, ev)

  pub fibres-refused : (x : Refusal) → found ≡ Err x → Fills (matrix_read fibres family s) old old (Err x)
  fibres-refused x e = refuses (matrix_read fibres family s) old x (read-is ∙ rw e)

  module _ (fine : found ≡ Ok tt) where
    known : matrix_read fibres family s ≡ table_of_matrix fibres family (matrix_of desk s)
    known = read-is ∙ rw fine

    pub matrix_refused : (x : Refusal) → IsGiven s x → Fills (matrix_read fibres family s) old old (Err x)
    unfolding table_of_matrix
    matrix_refused x g = refuses (matrix_read fibres family s) old x (rw (known, (given desk s x).1 g))

    pub matrix-fills : (n : ℕ) (rs : List Demand) → IsMatrix s n rs → (new : List ℕ) (r : Answer) → Fills (Ok (write_table (ring_of n fibres family) rs)) old new r → Fills (matrix_read fibres family s) old new r
    unfolding table_of_matrix
    matrix-fills n rs is new r = same-fills old new r (let rows = is.rows in rw (known, (matrix-text desk desk-possible s n is.m).1 (is.text, is.range), rows))

-- as many rows as pairs have entries above 0, for which there is room
pub matrix-rows-have-room : (s : List ℕ) (n : ℕ) (rows : List Routed) → IsMatrix s n (demands (sents rows)) → length rows ≤ desk.rows
matrix-rows-have-room s n rows is =
    let e = is.rows in
    let few = rw (← e) at is.range.count in
    omega (arith, demands-length rows)

-- ---- writing a table's matrix

-- what has room is told so
pub room-known : (room size : ℕ) → size ≤ room → Ok tt ≡ ask_room room size
unfolding ask_room
room-known room size h = rw (le-ltb room size h) refl

-- no sum passes where they are judged so
pub fit-judged : (rs : List Demand) (x : MatrixVerdict) → x ≡ judge_sums desk rs → x ≡ Ok tt → (k : ℕ) → Passes desk rs k → ⊥
fit-judged rs x e f = go (sums-judged desk rs) (sym e ∙ f)
  where
    go : {y : MatrixVerdict} → SumsJudged desk rs y → y ≡ Ok tt → (k : ℕ) → Passes desk rs k → ⊥
    go (sums_fit fit) h = fit
    go (sums_pass p) h = absurd (cc)

module _ (ring : Ring) (rs : List Demand) (x : MatrixVerdict) (ex : x ≡ judge_sums desk rs) where
  pub sums-refused : (old : List ℕ) (y : Refusal) → x ≡ Err y → Fills (matrix_of_table ring rs) old old (Err y)
  sums-refused old y f = refuses (matrix_of_table ring rs) old y (rw (← ex, f))

  pub written-fills : x ≡ Ok tt → (old new : List ℕ) (r : Answer) → Fills (Ok (write_matrix (matrix_of_rows ring.nodes rs))) old new r → Fills (matrix_of_table ring rs) old new r
  written-fills f old new r = same-fills old new r (rw (← ex, f))
