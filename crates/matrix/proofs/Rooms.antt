-- The text of a matrix in range is short, by the digits of its entries; so the matrix of a table whose sums fit is in range.
use Prim.Native.Nat.{ℕ, ◌*◌, ◌/◌, ◌≤◌, ◌<◌}
use mathlib.Core.List.{List, [], ◌∷◌}
use mathlib.Core.Path.{◌≡◌, ◌∙◌, sym}
use native.Mathlib.Omega.{arith}
use native.Mathlib.Decide.{dec_lt}
use lib.ListN.{length, length-append}
use Rattle.ring.specs.declared.types.Ring.{Ring}
use Rattle.ring.specs.Limits.{desk}
use Rattle.ring.specs.declared.types.Demand.{Demand}
use Rattle.ring.specs.Lists.{listed, Each, none, more}
use Rattle.ring.proofs.Listed.{listed-length, each-listed}
use Rattle.text.specs.Number.{base, digits}
use Rattle.text.specs.Field.{spell}
use Rattle.text.specs.WriteLine.{end_of, write_line}
use Rattle.text.specs.Shapes.{numbers, numbers_line}
use Rattle.text.proofs.Lengths.{one-long, more-long}
use Rattle.table.specs.Table.{InRange as TableInRange}
use Rattle.matrix.specs.Matrix.{write_matrix, IsSquare}
use Rattle.matrix.specs.Range.{InRange}
use Rattle.matrix.specs.Demands.{sum_of, matrix_of_rows, Passes}
use Rattle.matrix.specs.Room.{matrix_room}
use Rattle.matrix.proofs.SumLaws.{sum-either, sum-diagonal}
use Rattle.matrix.proofs.SumsGiven.{fit_small}
use Rattle.matrix.proofs.RoundTrip.{entry-sum}
use Rattle.matrix.proofs.FewRows.{rows-no-more}

-- ---- an amount has at most 4 digits

two_digits : (n : ℕ) → n < 100 → length (digits n) ≤ 2
two_digits n h = elim (dec_lt n base) [ yes l ↦ omega (arith, one-long n l) | no l ↦ omega (arith, more-long n (omega arith) (omega arith), one-long (n / base) (omega arith)) ]

three-digits : (n : ℕ) → n < 1000 → length (digits n) ≤ 3
three-digits n h = elim (dec_lt n base) [ yes l ↦ omega (arith, one-long n l) | no l ↦ omega (arith, more-long n (omega arith) (omega arith), two_digits (n / base) (omega arith)) ]

four-digits : (n : ℕ) → n ≤ desk.amount → length (digits n) ≤ 4
four-digits n h = elim (dec_lt n base) [ yes l ↦ omega (arith, one-long n l) | no l ↦ omega (arith, more-long n (omega arith) (omega arith), three-digits (n / base) (omega arith)) ]

-- ---- a line, and all lines

line-bytes : (vs : List ℕ) → Each (λ v. v ≤ desk.amount) vs → length (numbers_line vs) ≤ 5 * length vs
unfolding write_line spell
line-bytes [] none = omega arith
line-bytes (v ∷ vs) (more h hs) = omega (arith, length-append (digits v) (end_of (length (numbers (length vs))) ∷ numbers_line vs), four-digits v h, line-bytes vs hs)

matrix-bytes : (n : ℕ) (m : List (List ℕ)) → n ≤ desk.nodes → Each (λ vs. length vs ≡ n) m → Each (Each (λ v. v ≤ desk.amount)) m
    → length (write_matrix m) ≤ 5 * desk.nodes * length m
unfolding write_matrix
matrix-bytes n [] few none none = omega arith
matrix-bytes n (vs ∷ m) few (more w ws) (more h hs) = omega (arith, length-append (numbers_line vs) (write_matrix m), line-bytes vs h, matrix-bytes n m few ws hs)

-- room for every matrix
pub matrix-room : (n : ℕ) (m : List (List ℕ)) → n ≤ desk.nodes → IsSquare n m → Each (Each (λ v. v ≤ desk.amount)) m → length (write_matrix m) ≤ matrix_room desk
matrix-room n m few square amounts = omega (arith, matrix-bytes n m few square.wide amounts, square.tall)

-- ---- the matrix of a table

module _ (ring : Ring) (rs : List Demand) (table : TableInRange desk ring rs) (fit : (k : ℕ) → Passes desk rs k → ⊥) where
  square-of-rows : IsSquare ring.nodes (matrix_of_rows ring.nodes rs)
  square-of-rows = record {
    tall = listed-length (λ i. listed (sum_of rs i) 1 ring.nodes) 1 ring.nodes;
    wide = each-listed (λ i. listed (sum_of rs i) 1 ring.nodes) 1 ring.nodes (λ i p q. listed-length (sum_of rs i) 1 ring.nodes);
  }

  amounts-of-rows : Each (Each (λ v. v ≤ desk.amount)) (matrix_of_rows ring.nodes rs)
  amounts-of-rows = each-listed (λ i. listed (sum_of rs i) 1 ring.nodes) 1 ring.nodes (λ i p q. each-listed (sum_of rs i) 1 ring.nodes (λ j u v. fit_small desk rs fit i j))

  -- it is accepted
  pub matrix-in-range : InRange desk ring.nodes (matrix_of_rows ring.nodes rs)
  matrix-in-range =
      record {
        few = table.within.few;
        many = table.within.many;
        square = square-of-rows;
        amounts = amounts-of-rows;
        zeros = λ i p. entry-sum ring.nodes rs i i p p ∙ sum-diagonal table.within.rows.nodes i;
        symmetric = λ i j p q. entry-sum ring.nodes rs i j p q ∙ sum-either rs i j ∙ sym (entry-sum ring.nodes rs j i q p);
        count = omega (arith, rows-no-more ring.nodes rs, table.within.count);
        short = omega (arith, matrix-room ring.nodes (matrix_of_rows ring.nodes rs) table.within.many square-of-rows amounts-of-rows);
      }

  -- and has room
  pub room-for-matrix : length (write_matrix (matrix_of_rows ring.nodes rs)) ≤ matrix_room desk
  room-for-matrix = matrix-room ring.nodes (matrix_of_rows ring.nodes rs) table.within.many square-of-rows amounts-of-rows
