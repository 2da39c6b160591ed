-- The calls that read or write a matrix keep their promise (`Calls`), by the laws of reading a matrix and of sums; and a matrix comes back from its table, a table from
-- its matrix, over both calls.
use Prim.Native.Nat.{ℕ, ◌≤◌}
use mathlib.Core.List.{List}
use mathlib.Core.Logic.{◌↔◌}
use mathlib.Core.Path.{◌≡◌, refl, ap, ◌∙◌, sym, subst}
use native.Mathlib.Omega.{arith}
use lib.ListN.{length, take}
use Rattle.std.specs.Prelude.{Result, Ok, Err, IsOk, IfOk}
use Rattle.ring.specs.Limits.{desk}
use Rattle.ring.specs.LineSize.{IsFibres}
use Rattle.family.specs.declared.family.Family.{Family}
use Rattle.ring.specs.Ring.{ring_of}
use Rattle.ring.specs.declared.types.Ring.{Ring}
use Rattle.ring.specs.declared.types.Demand.{Demand}
use Rattle.reasons.specs.Judge.{check_fibres}
use Rattle.reasons.specs.AndThen.{and_then}
use Rattle.reasons.specs.Reasons.{number_of}
use Rattle.table.specs.Table.{write_table, table_room}
use Rattle.table.specs.ReadTable.{Table, table_of}
use Rattle.table.specs.Says as table
use Rattle.reasons.specs.declared.reason.Reason.{Reason}
use Rattle.reasons.specs.declared.reason.Refusal.{Refusal}
use Rattle.reasons.specs.declared.reason.Reason.TheVariants.{NoRoom}
use Rattle.reasons.proofs.Judged.{Fibred, other as not-fibres, known as are-fibres, fibred}
use Rattle.table.proofs.ReasonsGiven as table-given
use Rattle.table.proofs.Said.{not-15 as table-not-15}
use Rattle.matrix.specs.Matrix.{write_matrix}
use Rattle.matrix.specs.Demands.{rows_of_matrix, matrix_of_rows, Passes, OneEach}
use Rattle.matrix.specs.Read.{SquareRead, MatrixVerdict, matrix_of}
use Rattle.matrix.specs.Room.{matrix_room}
use Rattle.matrix.specs.Says.{says_too_long, says_no_first_line, says_no_later_line, says_left_over, says_ring_size, says_too_much, says_not_zero, says_not_symmetric, says_too_many, Says, Accepted}
use Rattle.matrix.proofs.MatrixText.{desk-possible, matrix-text}
use Rattle.matrix.proofs.ReasonsGiven.{one-given, given, accepted-is}
use Rattle.matrix.proofs.RoundTrip.{matrix-back, table-back, table-room, rows-in-range, rows-one-each}
use Rattle.matrix.proofs.Rooms.{room-for-matrix, matrix-in-range}
use Rattle.matrix.proofs.SumsGiven.{SumsJudged, sums_pass, sums_fit, sums-judged, one-passing}
use Rattle.matrix.proofs.OneEach.{one-each-fit}
use Rattle.ringkit.specs.Outcome.{Fills}
use Rattle.reasons.specs.Verdict.{refused_at}
use Rattle.matrix_calls.specs.MatrixCalls.{table_of_matrix, matrix_read, matrix_of_table, matrix_written}
use Rattle.ringkit.specs.Says.{Answer, CallPromise, Only}
use Rattle.ringkit.specs.Texts.{TableOf}
use Rattle.matrix_calls.specs.Matrices.{MatrixOf, SomeMatrix, MatrixDue, MatrixGiven, of_fibres, of_matrix, SumsDue, SumsFit, SumsGiven, of_the_table, of_sums, ReadMatrixPromise, WriteMatrixPromise, MatrixToTableToMatrix, TableToMatrixToTable}
use Rattle.ringkit.proofs.Calls.{Decided, is_due, is_given, One, call-promise, call-only, written-due, length-within, written, if-ok}
use Rattle.ringkit.proofs.TableCalls.{read_is, accepted-table, same-values, no-reason}

-- ---- reading

module _ (t : List ℕ) where
  -- a matrix is read to the lines that it is the matrix of
  matrix_is : (n : ℕ) (m : List (List ℕ)) → (matrix_of desk t ≡ Ok (n, m)) ↔ MatrixOf t n m
  matrix_is n m = (
    λ e. let w = (matrix-text desk desk-possible t n m).0 e in record { text = w.0; range = w.1 },
    λ h. (matrix-text desk desk-possible t n m).1 (h.text, h.range),
  )

  -- a text is accepted exactly when it is the matrix, written, of some lines in range
  pub matrix-accepted : Accepted desk t ↔ SomeMatrix t
  matrix-accepted = (
    λ a. let r = (accepted-is desk t).1 a in record { n = r.n; m = r.m; of = (matrix_is r.n r.m).0 r.is },
    λ h. (accepted-is desk t).0 (record { n = h.n; m = h.m; is = (matrix_is h.n h.m).1 h.of }),
  )

-- the rows of a matrix on 2 or 4 fibres
module _ (fibres : ℕ) (family : Family) (t : List ℕ) where
  decided : IsFibres fibres → (x : SquareRead) → matrix_of desk t ≡ x → Decided (MatrixDue fibres family t) (MatrixGiven fibres t) (table_of_matrix fibres family x)
  unfolding table_of_matrix
  decided f (Ok s) e = is_due (record { two_or_four = f; n = s.0; m = s.1; of = (matrix_is t s.0 s.1).0 e; is = refl })
  decided f (Err r) e = is_given (of_matrix f ((given desk t r).0 e))

  all-decided : Decided (MatrixDue fibres family t) (MatrixGiven fibres t) (matrix_read fibres family t)
  unfolding matrix_read check_fibres refused_at
  all-decided = go (fibred fibres)
    where
      go : Fibred fibres → Decided (MatrixDue fibres family t) (MatrixGiven fibres t) (matrix_read fibres family t)
      go (not-fibres f e) = rw e (is_given (of_fibres f))
      go (are-fibres f e) = rw e (decided f (matrix_of desk t) refl)

  due-accepted-matrix : (text : List ℕ) → MatrixDue fibres family t text → Accepted desk t
  due-accepted-matrix text d = (accepted-is desk t).0 (record { n = d.n; m = d.m; is = (matrix_is t d.n d.m).1 d.of })

  not-15 : {reason : Reason} {line : ℕ} → Says desk t reason line → number_of reason ≡ 15 → ⊥
  not-15 (says_too_long e long) f = omega arith
  not-15 (says_no_first_line h) f = omega arith
  not-15 (says_no_later_line h) f = omega arith
  not-15 (says_left_over h) f = omega arith
  not-15 (says_ring_size h) f = omega arith
  not-15 (says_too_much h) f = omega arith
  not-15 (says_not_zero h) f = omega arith
  not-15 (says_not_symmetric h) f = omega arith
  not-15 (says_too_many h) f = omega arith

  one-given-matrix : {r s : Reason} {line other byte on : ℕ} → MatrixGiven fibres t r line byte → MatrixGiven fibres t s other on → (r ≡ s) × (line ≡ other) × (byte ≡ on)
  one-given-matrix (of_fibres f) (of_fibres g) = (refl, refl, refl)
  one-given-matrix (of_fibres f) (of_matrix g h) = absurd (f g)
  one-given-matrix (of_matrix f h) (of_fibres g) = absurd (g f)
  one-given-matrix (of_matrix f h) (of_matrix g k) = one-given desk t h k

  due-not-given : {text : List ℕ} {r : Reason} {line byte : ℕ} → MatrixDue fibres family t text → MatrixGiven fibres t r line byte → ⊥
  due-not-given d (of_fibres f) = f d.two_or_four
  due-not-given {text} d (of_matrix {reason} {line} {byte} f g) = due-accepted-matrix text d reason line g.holds

  given-not-15 : {r : Reason} {line byte : ℕ} → MatrixGiven fibres t r line byte → r ≡ NoRoom → ⊥
  given-not-15 (of_fibres f) e = absurd (omega (arith, ap number_of e))
  given-not-15 (of_matrix f g) e = not-15 g.holds (ap number_of e)

  one-due : One (MatrixDue fibres family t) (MatrixGiven fibres t)
  one-due =
      record {
        text = λ a b.
            let e : ◌≡◌ {A = SquareRead} (Ok (a.n, a.m)) (Ok (b.n, b.m)) = sym ((matrix_is t a.n a.m).1 a.of) ∙ (matrix_is t b.n b.m).1 b.of in
            let same : (a.n, a.m) ≡ (b.n, b.m) = cc in
            a.is ∙ ap (λ (s : ℕ × List (List ℕ)). write_table (ring_of s.0 fibres family) (rows_of_matrix s.0 s.1)) same ∙ sym b.is;
        refusal = λ f g. one-given-matrix f g;
        apart = λ d g. due-not-given d g;
        other = λ g. given-not-15 g;
      }

-- the table of a matrix is written, with room for it; else 20, the matrix's first reason or 15
pub read-matrix-promise : (fibres : ℕ) (family : Family) (t old new : List ℕ) (r : Answer) → Fills (matrix_read fibres family t) old new r → CallPromise (MatrixDue fibres family t) (MatrixGiven fibres t) old new r
read-matrix-promise fibres family t old new r f = call-promise (one-due fibres family t) (all-decided fibres family t) f

pub read-matrix-only : (fibres : ℕ) (family : Family) (t old new : List ℕ) (r : Answer) → Fills (matrix_read fibres family t) old new r → Only (ReadMatrixPromise fibres family t old) new r
read-matrix-only fibres family t old new r f = call-only (read-matrix-promise fibres family t old new r f) (one-due fibres family t)

module _ (fibres : ℕ) (family : Family) (t text : List ℕ) (d : MatrixDue fibres family t text) where
  -- the table that is due is a table in range, so that it is accepted and can be routed
  due-table : TableOf text (ring_of d.n fibres family) (rows_of_matrix d.n d.m)
  due-table = record { text = d.is; range = rows-in-range d.n fibres family d.m d.two_or_four d.of.range }

  pub matrix-table-accepted : table.Accepted desk text
  matrix-table-accepted = (accepted-table text).1 (record { ring = ring_of d.n fibres family; rs = rows_of_matrix d.n d.m; of = due-table })

  -- and no longer than `table_room`
  pub matrix-table-short : length text ≤ table_room desk
  matrix-table-short = omega (arith, ap length d.is, table-room d.n fibres family d.m d.two_or_four d.of.range)

-- what is written is an accepted table, and fits
pub read-accepted : (fibres : ℕ) (family : Family) (t old new : List ℕ) (r : Answer) → Fills (matrix_read fibres family t) old new r → IfOk r (λ n. table.Accepted desk (take n new))
read-accepted fibres family t old new r f = if-ok r (λ n. matrix-table-accepted fibres family t (take n new)) (written-due (read-matrix-promise fibres family t old new r f))

pub read-fits : (fibres : ℕ) (family : Family) (t old new : List ℕ) (r : Answer) → Fills (matrix_read fibres family t) old new r → IfOk r (λ n. n ≤ table_room desk)
read-fits fibres family t old new r f = length-within (read-matrix-promise fibres family t old new r f) (table_room desk) (matrix-table-short fibres family t)

-- so with that room every accepted matrix is read
pub always-read : (fibres : ℕ) (family : Family) (t old new : List ℕ) (r : Answer) → Fills (matrix_read fibres family t) old new r → IsFibres fibres → Accepted desk t → table_room desk ≤ length old → IsOk r
always-read fibres family t old new r call f a room =
    let h = (matrix-accepted t).0 a in
    let text = write_table (ring_of h.n fibres family) (rows_of_matrix h.n h.m) in
    let d : MatrixDue fibres family t text = record { two_or_four = f; n = h.n; m = h.m; of = h.of; is = refl } in
    written (read-matrix-promise fibres family t old new r call) d (omega (arith, matrix-table-short fibres family t text d))

-- ---- writing

module _ (t : List ℕ) where
  sums-decided : (x : Result Table Refusal) → table_of desk t ≡ x → Decided (SumsDue t) (SumsGiven t) (and_then x λ y. matrix_of_table y.0 y.1)
  sums-decided (Ok y) e = go (sums-judged desk y.1)
    where
      go : {x : MatrixVerdict} → SumsJudged desk y.1 x → Decided (SumsDue t) (SumsGiven t) (and_then x λ u. Ok (write_matrix (matrix_of_rows y.0.nodes y.1)))
      go (sums_fit fit) = is_due (record { ring = y.0; rs = y.1; of = (read_is t y.0 y.1).0 e; fit = fit; is = refl })
      go (sums_pass passes) = is_given (of_sums ((read_is t y.0 y.1).0 e) passes)
  sums-decided (Err r) e = is_given (of_the_table ((table-given.given desk t r).0 e))

  one-refusal : {r s : Reason} {line other byte on : ℕ} → SumsGiven t r line byte → SumsGiven t s other on → (r ≡ s) × (line ≡ other) × (byte ≡ on)
  one-refusal (of_the_table a) (of_the_table b) = table-given.one-given a b
  one-refusal (of_the_table a) (of_sums of p) = absurd (no-reason of a)
  one-refusal (of_sums of p) (of_the_table b) = absurd (no-reason of b)
  one-refusal (of_sums {rs} {line} of p) (of_sums {rs = qs} {line = other} of' q) =
      let e = (same-values of of').1 in
      (refl, one-passing p (rw e q), refl)

  due-or-given : {text : List ℕ} {r : Reason} {line byte : ℕ} → SumsDue t text → SumsGiven t r line byte → ⊥
  due-or-given d (of_the_table a) = no-reason d.of a
  due-or-given d (of_sums of p) = let e = (same-values of d.of).1 in d.fit p.k (rw e at p.holds)

  not_full : {r : Reason} {line byte : ℕ} → SumsGiven t r line byte → r ≡ NoRoom → ⊥
  not_full (of_the_table {reason} a) e = table-not-15 reason a.holds (ap number_of e)
  not_full (of_sums of p) e = absurd (omega (arith, ap number_of e))

  one-sums : One (SumsDue t) (SumsGiven t)
  one-sums =
      record {
        text = λ a b.
            let e = same-values a.of b.of in
            let en = e.0 in
            let er = e.1 in
            let d : write_matrix (matrix_of_rows a.ring.nodes a.rs) ≡ write_matrix (matrix_of_rows b.ring.nodes b.rs) = rw (en, er) in
            a.is ∙ d ∙ sym b.is;
        refusal = λ f g. one-refusal f g;
        apart = λ d g. due-or-given d g;
        other = λ g. not_full g;
      }

-- the matrix of a table is written, with room for it; else the table's first reason, 19 or 15
pub write-matrix-promise : (t old new : List ℕ) (r : Answer) → Fills (matrix_written t) old new r → CallPromise (SumsDue t) (SumsGiven t) old new r
write-matrix-promise t old new r f = call-promise (one-sums t) (sums-decided t (table_of desk t) refl) f

pub write-matrix-only : (t old new : List ℕ) (r : Answer) → Fills (matrix_written t) old new r → Only (WriteMatrixPromise t old) new r
write-matrix-only t old new r f = call-only (write-matrix-promise t old new r f) (one-sums t)

module _ (t text : List ℕ) (d : SumsDue t text) where
  -- the matrix that is due is a matrix in range, so that it is accepted
  due-matrix : MatrixOf text d.ring.nodes (matrix_of_rows d.ring.nodes d.rs)
  due-matrix = record { text = d.is; range = matrix-in-range d.ring d.rs d.of.range d.fit }

  pub written-matrix-accepted : Accepted desk text
  written-matrix-accepted =
      (accepted-is desk text).0 (record { n = d.ring.nodes; m = matrix_of_rows d.ring.nodes d.rs; is = (matrix_is text d.ring.nodes (matrix_of_rows d.ring.nodes d.rs)).1 due-matrix })

  -- and no longer than `matrix_room`
  pub written-matrix-short : length text ≤ matrix_room desk
  written-matrix-short = omega (arith, ap length d.is, room-for-matrix d.ring d.rs d.of.range d.fit)

-- what is written is an accepted matrix, and fits
pub written-accepted : (t old new : List ℕ) (r : Answer) → Fills (matrix_written t) old new r → IfOk r (λ n. Accepted desk (take n new))
written-accepted t old new r f = if-ok r (λ n. written-matrix-accepted t (take n new)) (written-due (write-matrix-promise t old new r f))

pub written-fits : (t old new : List ℕ) (r : Answer) → Fills (matrix_written t) old new r → IfOk r (λ n. n ≤ matrix_room desk)
written-fits t old new r f = length-within (write-matrix-promise t old new r f) (matrix_room desk) (written-matrix-short t)

-- so with that room every accepted table of which no sum passes is written
pub always-written : (t old new : List ℕ) (r : Answer) → Fills (matrix_written t) old new r → SumsFit t → matrix_room desk ≤ length old → IsOk r
always-written t old new r call s room =
    let text = write_matrix (matrix_of_rows s.ring.nodes s.rs) in
    let d : SumsDue t text = record { ring = s.ring; rs = s.rs; of = s.of; fit = s.fit; is = refl } in
    written (write-matrix-promise t old new r call) d (omega (arith, written-matrix-short t text d))

-- and none passes where there is at most one row for a pair
pub one-each-written : (t : List ℕ) (ring : Ring) (rs : List Demand) → TableOf t ring rs → OneEach rs → (k : ℕ) → Passes desk rs k → ⊥
one-each-written t ring rs of each = one-each-fit ring rs of.range each

-- ---- there and back

-- the same bytes, for every accepted matrix, whatever the fibres and the family
pub matrix-there-and-back : MatrixToTableToMatrix
matrix-there-and-back fibres family t text old new r read done other after q write room =
    let d = ((read.succeeds text).0 done).0 in
    let table = due-table fibres family t text d in
    let due : SumsDue text t =
    record {
      ring = ring_of d.n fibres family;
      rs = rows_of_matrix d.n d.m;
      of = table;
      fit = one-each-fit (ring_of d.n fibres family) (rows_of_matrix d.n d.m) table.range (rows-one-each d.n d.m);
      is = d.of.text ∙ sym (ap write_matrix (matrix-back desk d.n d.m d.of.range));
    } in
    (write.succeeds t).1 (due, room)

-- the same bytes, for every accepted table with at most one row for a pair and none of amount 0
pub table-there-and-back : TableToMatrixToTable
table-there-and-back t ring rs of each text old new r write done other after q read room =
    let d = ((write.succeeds text).0 done).0 in
    let same = same-values of d.of in
    let er = same.0 in
    let es = same.1 in
    let back = table-back d.ring.nodes d.rs d.of.range.within.rows (rw es at each) in
    let due : MatrixDue d.ring.fibres d.ring.family text t =
    record {
      two_or_four = d.of.range.within.fibres;
      n = d.ring.nodes;
      m = matrix_of_rows d.ring.nodes d.rs;
      of = due-matrix t text d;
      is = d.of.text ∙ sym (ap (write_table d.ring) back);
    } in
    (read.succeeds t).1 (subst (λ (x : Ring). MatrixDue x.fibres x.family text t) (sym er) due, room)
