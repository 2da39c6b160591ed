-- Reading a matrix: the first line's size, then line by line; one law for each way out, and what is told of a text then.
use Prim.Native.Nat.{ℕ, suc, ◌+◌, ◌-◌, ◌≤◌, ◌<◌}
use mathlib.Core.List.{List, [], ◌∷◌, ◌++◌}
use mathlib.Core.Path.{◌≡◌, refl, ap, ◌∙◌, sym, subst}
use native.Mathlib.Omega.{arith}
use lib.ListN.{length, set, take, length-set}
use lib.Seq.{take_all}
use borrow.Author.Tests.{lt-ltb, le-ltb}
use Rattle.std.specs.Prelude.{Ok, Err, IfOk, IfErr}
use Rattle.std.proofs.lemmas.List.{take_more_set}
use Rattle.ring.specs.Limits.{desk}
use Rattle.ring.specs.Lists.{Each}
use Rattle.ring.specs.declared.types.Demand.{Demand}
use Rattle.text.specs.ReadLine.{read_line}
use Rattle.text.specs.Shapes.{numbers}
use Rattle.lines.specs.Lines.{lines}
use Rattle.reasons.specs.Judge.{check_size}
use Rattle.reasons.specs.Verdict.{Verdict, refused_at}
use Rattle.reasons.specs.declared.reason.Reason.TheVariants.{TooLong, Misshapen}
use Rattle.reasons.specs.declared.reason.Refusal.{Refusal}
use Rattle.reasons.proofs.Judged.{SizeJudged, right_size, size-judged}
use Rattle.matrix.specs.Demands.{rows_of_matrix}
use Rattle.reasons.specs.AndThen.{and_then}
use Rattle.lines.specs.OnLine.{values_on}
use Rattle.reasons.specs.Refusals.{refusal, refuse}
use Rattle.matrix.specs.Read.{SquareRead, MatrixVerdict, Numbers, fields_in, first_numbers, amounts_in, square_lines, judge_down, judge_count, square_judged, matrix_of}
use Rattle.matrix.specs.ReadInto.{read_to, IsMatrix, IsGiven}
use Rattle.matrix.proofs.LineSteps.{told-bad, told-good}
use Rattle.matrix.proofs.LinesText.{LineRead, line_is, line-read, LinesRead, lines_are, lines-read}
use Rattle.matrix.proofs.MatrixText.{desk-possible, matrix-text}
use Rattle.matrix.proofs.ReasonsGiven.{given}

-- ---- the first line

pub ring-few : (n : ℕ) (v : Verdict) → v ≡ check_size desk n → (y : MatrixVerdict) → y ≡ refused_at v 1 1 → y ≡ Ok tt → n ≤ desk.nodes
unfolding refused_at
ring-few n v e y ey f = go v (rw (← e) at (size-judged desk n)) (sym ey ∙ f)
  where
    go : (v : Verdict) → SizeJudged desk n v → refused_at v 1 1 ≡ Ok tt → n ≤ desk.nodes
    go (Ok tt) (right_size few many) g = many
    go (Err r) judged g = absurd (cc)

module _ (s : List ℕ) where
  pub too_long : desk.bytes < length s → matrix_of desk s ≡ refuse TooLong 0 0
  unfolding matrix_of
  too_long h = rw (lt-ltb _ _ h)

  module _ (short : length s ≤ desk.bytes) where
    pub no_line : lines s ≡ [] → matrix_of desk s ≡ refuse Misshapen 1 1
    unfolding matrix_of
    no_line none = rw (le-ltb desk.bytes (length s) short, none)

    module _ (first : List ℕ) (ls : List (List ℕ)) (left : lines s ≡ first ∷ ls) where
      module _ (count : ℕ) (ec : count ≡ fields_in first) (x : Numbers) (ex : x ≡ values_on 1 (first_numbers (read_line desk.digits (numbers count) first))) where
        pub first-misshapen : (r : Refusal) → x ≡ Err r → matrix_of desk s ≡ Err r
        unfolding matrix_of
        first-misshapen r f = rw (le-ltb desk.bytes (length s) short, left, ← ec, told-bad count 1 first x ex r f)

        module _ (read : List ℕ) (f : x ≡ Ok read) (v : Verdict) (ev : v ≡ check_size desk count) (y : MatrixVerdict) (ey : y ≡ refused_at v 1 1) where
          size-told : matrix_of desk s ≡ and_then y (λ u. square_judged desk (square_lines desk count 1 count [] (lines s)))
          unfolding matrix_of values_on
          size-told = rw (le-ltb desk.bytes (length s) short, left, ← ec, (told-good count 1 first x ex read f).is, ← ev, ← ey)

          pub ring-fault : (r : Refusal) → y ≡ Err r → matrix_of desk s ≡ Err r
          ring-fault r g = size-told ∙ rw g

          pub then-square : y ≡ Ok tt → matrix_of desk s ≡ square_judged desk (square_lines desk count 1 count [] (lines s))
          then-square g = size-told ∙ rw g

-- ---- line by line: those before `line` are read, and `left` are left of the lines ls

pub record ReadingLines (ls : List (List ℕ)) (n : ℕ) (square : List (List ℕ)) (line : ℕ) (left : List (List ℕ)) : Type 0 where
  pub rest : square_lines desk n 1 n [] ls ≡ square_lines desk n line (n + 1 - line) (take (line - 1) square) left
  pub tall : length square ≡ n

-- a line that was read has as many numbers as are due
pub amounts-wide : (n line : ℕ) (l : List ℕ) (x : Numbers) → x ≡ amounts_in desk line (read_line desk.digits (numbers n) l) → (vs : List ℕ) → x ≡ Ok vs → length vs ≡ n
amounts-wide n line l x ex vs e = go (rw (sym ex ∙ e) at (line-read desk n line l))
  where
    go : LineRead desk n line l (Ok vs) → length vs ≡ n
    go (line_is t k s a) = k

-- and each of them is an amount
pub amounts-within : (n line : ℕ) (l : List ℕ) (x : Numbers) → x ≡ amounts_in desk line (read_line desk.digits (numbers n) l) → (vs : List ℕ) → x ≡ Ok vs → Each (λ v. v ≤ desk.amount) vs
amounts-within n line l x ex vs e = go (rw (sym ex ∙ e) at (line-read desk n line l))
  where
    go : LineRead desk n line l (Ok vs) → Each (λ v. v ≤ desk.amount) vs
    go (line_is t k s a) = a

module _ (ls : List (List ℕ)) (n : ℕ) (square : List (List ℕ)) (line : ℕ) (left : List (List ℕ)) (on : ReadingLines ls n square line left) (low : 1 ≤ line) where
  abbrev whole : SquareRead
  whole = square_lines desk n 1 n [] ls

  module _ (due : line < n + 1) where
    one-more : n + 1 - line ≡ suc (n - line)
    one-more = omega arith

    -- no line is left, and one is missing
    pub missing : left ≡ [] → (r : Refusal) → r ≡ refusal Misshapen line 1 → read_to (Err r) square ≡ whole
    unfolding square_lines
    missing none r e = sym (on.rest ∙ rw (one-more, none, e))

    module _ (l : List ℕ) (behind : List (List ℕ)) (there : left ≡ l ∷ behind) (x : Numbers) (ex : x ≡ amounts_in desk line (read_line desk.digits (numbers n) l)) where
      next-line : whole ≡ and_then x λ vs. square_lines desk n (line + 1) (n - line) (take (line - 1) square ++ vs ∷ []) behind
      unfolding square_lines
      next-line = on.rest ∙ rw (one-more, there, ← ex)

      pub line-refused : (r : Refusal) → x ≡ Err r → read_to (Err r) square ≡ whole
      line-refused r e = sym (next-line ∙ rw e)

      pub line-kept : (vs : List ℕ) → x ≡ Ok vs → (new : List (List ℕ)) → new ≡ set square (line - 1) vs → ReadingLines ls n new (line + 1) behind
      line-kept vs e new en =
          let k : line - 1 + 1 ≡ line + 1 - 1 = omega arith in
          let m : n - line ≡ n + 1 - (line + 1) = omega arith in
          let more : take (line + 1 - 1) new ≡ take (line - 1) square ++ vs ∷ [] = ap (take (line + 1 - 1)) en ∙ (rw k at (take_more_set square (line - 1) vs (omega (arith, on.tall)))) in
          record { rest = next-line ∙ rw (e, more, m); tall = ap length en ∙ length-set square (line - 1) vs ∙ on.tall }

  module _ (done : n + 1 ≤ line) where
    none-due : n + 1 - line ≡ 0
    none-due = omega arith

    -- a line behind the n-th is left over
    pub lines-over : line ≤ n + 1 → (x : MatrixVerdict) → IfOk x (λ _. left ≡ []) → IfErr x (λ r. (r ≡ refusal Misshapen (n + 1) 1) × (left ≡ [] → ⊥)) → read_to x square ≡ whole
    unfolding square_lines
    lines-over high (Ok tt) none over = sym (on.rest ∙ rw (none-due, none, take_all (line - 1) square (omega (arith, on.tall)), on.tall))
    lines-over high (Err r) none over = sym (on.rest ∙ rw (none-due, over.0) (left-over left over.1))
      where
        k : n + 1 ≡ line
        k = omega arith

        left-over : (ls : List (List ℕ)) → (ls ≡ [] → ⊥) → square_lines desk n line 0 (take (line - 1) square) ls ≡ refuse Misshapen (n + 1) 1
        left-over [] some = absurd (some refl)
        left-over (l ∷ ls) some = rw k refl

-- ---- the whole

pub told-refusal : (s : List ℕ) (r : Refusal) → matrix_of desk s ≡ Err r → IsGiven s r
told-refusal s r e = (given desk s r).0 e

module _ (s : List ℕ) (n : ℕ) (is : matrix_of desk s ≡ square_judged desk (square_lines desk n 1 n [] (lines s))) where
  module _ (square old : List (List ℕ)) (tall : length old ≡ n) where
    lines-are : (x : MatrixVerdict) → read_to x square ≡ square_lines desk (length old) 1 (length old) [] (lines s) → matrix_of desk s ≡ square_judged desk (read_to x square)
    lines-are x e = is ∙ ap (square_judged desk) (sym (rw tall at e))

    pub told-lines : (x : MatrixVerdict) → read_to x square ≡ square_lines desk (length old) 1 (length old) [] (lines s) → (r : Refusal) → x ≡ Err r → IsGiven s r
    unfolding square_judged
    told-lines x e r f = told-refusal s r (lines-are x e ∙ rw f)

    module _ (x : MatrixVerdict) (e : read_to x square ≡ square_lines desk (length old) 1 (length old) [] (lines s)) (f : x ≡ Ok tt) (v : MatrixVerdict) (ev : v ≡ judge_down square (length square) 1 (length square)) where
      judged : matrix_of desk s ≡ and_then v (λ u. and_then (judge_count desk (length square) square) (λ w. Ok (length square, square)))
      unfolding square_judged
      judged = lines-are x e ∙ rw (f, ev)

      pub told-entries : (r : Refusal) → v ≡ Err r → IsGiven s r
      told-entries r g = told-refusal s r (judged ∙ rw g)

      module _ (g : v ≡ Ok tt) (w : MatrixVerdict) (ew : w ≡ judge_count desk (length square) square) where
        pub told-count : (r : Refusal) → w ≡ Err r → IsGiven s r
        told-count r h = told-refusal s r (judged ∙ rw (g, ← ew, h))

        pub told-matrix : w ≡ Ok tt → (rs : List Demand) → rs ≡ rows_of_matrix (length square) square → IsMatrix s n rs
        told-matrix h rs er =
            let w = (matrix-text desk desk-possible s (length square) square).0 (judged ∙ rw (g, ← ew, h)) in
            let k : length square ≡ n = as-many (rw (f, tall) at e) in
            rw (← k) (record { m = square; text = w.0; range = w.1; rows = er })
          where
            as-many : Ok (length square, square) ≡ square_lines desk n 1 n [] (lines s) → length square ≡ n
            as-many q = go (subst (LinesRead desk n n [] (lines s)) (sym q) (lines-read (lines s) 1 n []))
              where
                go : {k : ℕ} → LinesRead desk n n [] (lines s) (Ok (k, square)) → k ≡ n
                go (lines_are rest whole text many wide within) = refl
