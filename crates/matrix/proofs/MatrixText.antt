-- A text is read to a matrix exactly when it is that matrix written and the matrix is in range: read line by line and entry by entry one way, written line by
-- line the other.
use Prim.Native.Nat.{ℕ, suc, ◌+◌, ◌≤◌, ◌<◌}
use mathlib.Core.List.{List, [], ◌∷◌, ◌++◌, append_assoc, flatten}
use mathlib.Core.Logic.{◌↔◌}
use mathlib.Core.Path.{◌≡◌, refl, ap, ◌∙◌, sym, subst}
use native.Mathlib.Omega.{arith}
use native.Mathlib.Decide.{ℕ_discrete}
use lib.ListN.{length}
use borrow.Author.Tests.{le-ltb, ltb-false, ne_eqb}
use Rattle.ring.specs.Limits.{Limits, desk}
use Rattle.ring.specs.Lists.{Each, more}
use Rattle.ring.proofs.Side.{cond-elim}
use Rattle.text.specs.ReadLine.{Reading}
use Rattle.text.specs.Bytes.{tab, digit0}
use Rattle.text.specs.Number.{limit, digits}
use Rattle.text.specs.Field.{spell}
use Rattle.text.specs.WriteLine.{end_of, write_line}
use Rattle.text.specs.Shapes.{numbers, numbers_line}
use Rattle.text.proofs.Digits.{tens, by_digits, digits-one, digits_more}
use Rattle.lines.specs.Lines.{lines}
use Rattle.reasons.specs.declared.reason.Reason.{Reason}
use Rattle.reasons.specs.Verdict.{Verdict, refused_at}
use Rattle.reasons.proofs.Judged.{SizeJudged, not_so_many, right_size, size-judged, fine-size}
use Rattle.lines.proofs.LinesOf.{join-lines}
use Rattle.matrix.specs.Matrix.{entry, write_matrix, Node}
use Rattle.matrix.specs.Range.{InRange}
use Rattle.matrix.specs.Demands.{rows_of_matrix}
use Rattle.matrix.specs.Read.{SquareRead, MatrixVerdict, fields_in, square_lines, judge_down, judge_count, square_judged, matrix_lines, matrix_of}
use Rattle.std.specs.Prelude.{Ok, Err}
use Rattle.reasons.specs.AndThen.{and_then}
use Rattle.lines.specs.OnLine.{values_on}
use Rattle.reasons.specs.declared.reason.Refusal.{Refusal}
use Rattle.matrix.proofs.LinesText.{Spelled, NumbersRead, are_numbers, no_numbers, numbers-read, numbers-line-read, numbers-first, spelled-line, Wide, Within, LinesRead, lines_are, lines_refused, lines-read, written-lines-read}
use Rattle.matrix.proofs.Entries.{WrongEntry, not_zero, not_mirror, DownJudged, down_wrong, down_right, down-judged}

-- ---- the fields of a line of numbers are its values

pub fields-behind : (limits : Limits) (n : ℕ) → n < limit limits.digits → (l : List ℕ) → fields_in (digits n ++ l) ≡ fields_in l
unfolding fields_in
fields-behind limits =
    by_digits limits.digits limits.countable (λ n. (l : List ℕ) → fields_in (digits n ++ l) ≡ fields_in l)
    (λ n h l. rw (digits-one n h, ne_eqb (digit0 + n) tab (λ e. omega arith)) (omega arith))
    (λ v d hv hf hd ih l. rw (digits_more v d hv (omega (arith, tens limits.digits limits.countable)) hd, append_assoc) (ih ((digit0 + d) ∷ l) ∙ rw (ne_eqb (digit0 + d) tab (λ e. omega arith)) (omega arith)))

pub fields-line : (limits : Limits) (v : ℕ) (vs : List ℕ) → Spelled limits (v ∷ vs) → fields_in (numbers_line (v ∷ vs)) ≡ suc (length vs)
unfolding write_line spell end_of fields_in
fields-line limits v [] (more h hs) = fields-behind limits v h _
fields-line limits v (w ∷ vs) (more h hs) =
    rw (ne_eqb (suc (length (numbers (length vs)))) 0 (λ e. omega arith)) (fields-behind limits v h _ ∙ omega (arith, fields-line limits w vs hs))

pub fields-are : (limits : Limits) (vs : List ℕ) → 1 ≤ length vs → Spelled limits vs → fields_in (numbers_line vs) ≡ length vs
fields-are limits [] l s = absurd (omega arith)
fields-are limits (v ∷ vs) l s = fields-line limits v vs s

-- ---- limits that matrices can have

pub record Possible (limits : Limits) : Type 0 where
  pub some : 1 ≤ limits.fewest
  pub amount : limits.amount < limit limits.digits

pub desk-possible : Possible desk
desk-possible = record { some = omega arith; amount = omega arith }

-- ---- read, so written

data MatrixRead (limits : Limits) (t : List ℕ) : SquareRead → Type 0 where
  matrix_is : {n : ℕ} {m : List (List ℕ)} → t ≡ write_matrix m → InRange limits n m → MatrixRead limits t (Ok (n, m))
  matrix_refused : {r : Refusal} → MatrixRead limits t (Err r)

module _ {limits : Limits} {t : List ℕ} (short : length t ≤ limits.bytes) where
  square-read : {n : ℕ} {ls : List (List ℕ)} {x : SquareRead} → limits.fewest ≤ n → n ≤ limits.nodes → t ≡ flatten ls → LinesRead limits n n [] ls x
      → MatrixRead limits t (square_judged limits x)
  unfolding square_judged
  square-read few many whole lines_refused = matrix_refused
  square-read {n} few many whole (lines_are {all = m} rest is text tall wide within) = go (down-judged m n 1 n)
    where
      go : {z : MatrixVerdict} → DownJudged m n 1 n z → MatrixRead limits t (and_then z (λ u. and_then (judge_count limits n m) (λ w. Ok (n, m))))
      go (down_wrong at a b c d e) = matrix_refused
      go (down_right right) =
          let written : t ≡ write_matrix m = whole ∙ text ∙ ap write_matrix (sym is) in
          cond-elim (λ (z : MatrixVerdict). MatrixRead limits t (and_then z (λ w. Ok (n, m)))) _ _ _ (λ e. matrix_refused)
          (λ e. matrix_is written (record {
            few = few;
            many = many;
            square = record { tall = ap length is ∙ tall; wide = subst (Wide n) (sym is) wide };
            amounts = subst (Within limits) (sym is) within;
            zeros = λ i p. elim (ℕ_discrete (entry m i i) 0) [ yes z ↦ z | no z ↦ absurd (right i i _ p.0 (omega (arith, p.1)) p (not_zero refl z)) ];
            symmetric = λ i j p q.
                elim (ℕ_discrete i j) [
                  | yes e ↦ rw e
                  | no e ↦ elim (ℕ_discrete (entry m i j) (entry m j i)) [ yes z ↦ z | no z ↦ absurd (right i j _ p.0 (omega (arith, p.1)) q (not_mirror e z)) ]
                ];
            count = ltb-false limits.rows (length (rows_of_matrix n m)) e;
            short = omega (arith, ap length written);
          }))

  lines-matrix : (ls : List (List ℕ)) → t ≡ flatten ls → MatrixRead limits t (matrix_lines limits ls)
  unfolding matrix_lines values_on refused_at
  lines-matrix [] whole = matrix_refused
  lines-matrix (l ∷ ls) whole = go (numbers-read limits (fields_in l) l) (size-judged limits (fields_in l))
    where
      next : SquareRead
      next = square_judged limits (square_lines limits (fields_in l) 1 (fields_in l) [] (l ∷ ls))

      ring : {v : Verdict} → SizeJudged limits (fields_in l) v → MatrixRead limits t (and_then (refused_at v 1 1) (λ u. next))
      ring (not_so_many w) = matrix_refused
      ring (right_size few many) = square-read few many whole (lines-read (l ∷ ls) 1 (fields_in l) [])

      go : {x : Reading} {v : Verdict} → NumbersRead limits (fields_in l) l x → SizeJudged limits (fields_in l) v → MatrixRead limits t (and_then (values_on 1 x) (λ vs. and_then (refused_at v 1 1) (λ u. next)))
      go (are_numbers e k s) judged = ring judged
      go (no_numbers h fault) judged = matrix_refused

matrix-read : (limits : Limits) (t : List ℕ) → MatrixRead limits t (matrix_of limits t)
unfolding matrix_of
matrix-read limits t =
    cond-elim (MatrixRead limits t) _ _ _ (λ e. matrix_refused) (λ e. lines-matrix (ltb-false limits.bytes (length t) e) (lines t) (sym (join-lines t)))

-- ---- written, so read

-- a square in range is fine
right-square : (limits : Limits) (n : ℕ) (m : List (List ℕ)) → InRange limits n m → judge_down m n 1 n ≡ Ok tt
right-square limits n m range = go (down-judged m n 1 n)
  where
    right : {i j : ℕ} {r : Reason} → Node n i → Node n j → WrongEntry m i j r → ⊥
    right {i} p q (not_zero e w) = w (rw (← e) (range.zeros i p))
    right {i} {j} p q (not_mirror e w) = w (range.symmetric i j p q)

    go : {z : MatrixVerdict} → DownJudged m n 1 n z → z ≡ Ok tt
    go (down_wrong at a b c d e) = absurd (right (a, omega arith) c d)
    go (down_right all) = refl

module _ (limits : Limits) (possible : Possible limits) where
  first-written : (n : ℕ) (m : List (List ℕ)) → InRange limits n m → (l : List (List ℕ)) → lines (write_matrix m) ≡ l → matrix_lines limits l ≡ Ok (n, m)
  unfolding matrix_lines values_on refused_at square_judged write_matrix
  first-written n [] range l e = absurd (omega (arith, range.square.tall, range.few, possible.some))
  first-written n (vs ∷ m) range l e = go range.square.wide range.amounts
    where
      lines-back : (ls : List (List ℕ)) → lines (write_matrix (vs ∷ m)) ≡ ls → square_lines limits n 1 n [] ls ≡ Ok (n, vs ∷ m)
      lines-back ls e =
          rw (← e)
          (subst (λ k. square_lines limits n 1 k [] (lines (write_matrix (vs ∷ m))) ≡ Ok (n, vs ∷ m)) range.square.tall
          (written-lines-read limits n possible.amount (omega (arith, range.few, possible.some)) 1 [] (vs ∷ m) range.square.wide range.amounts))

      go : Each (λ us. length us ≡ n) (vs ∷ m) → Each (Each (λ v. v ≤ limits.amount)) (vs ∷ m) → matrix_lines limits l ≡ Ok (n, vs ∷ m)
      go (more w ws) (more a bs) =
          let s : Spelled limits vs = spelled-line limits possible.amount a in
          let some : 1 ≤ length vs = omega (arith, range.few, possible.some) in
          let f : fields_in (numbers_line vs) ≡ n = fields-are limits vs some s ∙ w in
          let head : lines (write_matrix (vs ∷ m)) ≡ numbers_line vs ∷ lines (write_matrix m) = numbers-first limits vs some s (write_matrix m) in
          rw (← e, head, f, numbers-line-read limits n vs w s, fine-size limits n range.few range.many, lines-back _ head, right-square limits n (vs ∷ m) range, le-ltb limits.rows (length (rows_of_matrix n (vs ∷ m))) range.count)

  written_read : (n : ℕ) (m : List (List ℕ)) → InRange limits n m → matrix_of limits (write_matrix m) ≡ Ok (n, m)
  unfolding matrix_of
  written_read n m range = rw (le-ltb limits.bytes (length (write_matrix m)) range.short) (first-written n m range _ refl)

  -- ---- both

  pub matrix-text : (t : List ℕ) (n : ℕ) (m : List (List ℕ)) → (matrix_of limits t ≡ Ok (n, m)) ↔ ((t ≡ write_matrix m) × InRange limits n m)
  matrix-text t n m = (λ e. go (subst (MatrixRead limits t) e (matrix-read limits t)), λ h. rw h.0 (written_read n m h.1))
    where
      go : MatrixRead limits t (Ok (n, m)) → (t ≡ write_matrix m) × InRange limits n m
      go (matrix_is text range) = (text, range)
