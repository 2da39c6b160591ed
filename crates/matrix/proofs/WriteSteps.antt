-- A matrix's text line by line: a line is written entry by entry, and its text is one of the pieces
-- that measuring and writing go through.
use Prim.Native.Nat.{ℕ, zero, suc, ◌+◌, ◌-◌, ◌≤◌, ◌<◌}
use mathlib.Core.List.{List, [], ◌∷◌, ◌++◌, append_assoc, append-nil}
use mathlib.Core.Path.{◌≡◌, refl, ap, ◌∙◌, sym}
use native.Mathlib.Omega.{arith}
use lib.ListN.{length, get_or, take, length-replicate}
use lib.Seq.{take_all}
use Rattle.ring.specs.Limits.{desk}
use Rattle.ring.specs.declared.types.Demand.{Demand}
use Rattle.ring.specs.Lists.{listed}
use Rattle.ring.specs.Sheet.{sents, demands}
use Rattle.ring.specs.declared.types.Routed.{Routed}
use Rattle.ring.proofs.Laid.{get_or-listed}
use Rattle.ring.proofs.Listed.{listed-snoc, listed-length}
use Rattle.text.specs.Field.{spell}
use Rattle.text.specs.Pass.{PassLaws}
use Rattle.text.specs.WriteLine.{end_of}
use Rattle.text.specs.Written.{Passed}
use Rattle.text.proofs.WritingLine.{Writing, field-fits, writing-turn, writing-done}
use Rattle.text.specs.declared.field.Field.{Field}
use Rattle.text.specs.declared.field.Field.TheVariants.{Number}
use Rattle.text.specs.Shapes.{numbers, numbers_line}
use Rattle.text.proofs.Lengths.{line-short}
use Rattle.text.proofs.Pieces.{Pieces, text-short}
use Rattle.matrix.specs.Matrix.{write_matrix}
use Rattle.matrix.specs.Demands.{sum_of}
use Rattle.matrix.specs.Judged.{Amounts}
use Rattle.ring.proofs.Small.{demands-length}
use Rattle.matrix.proofs.SumLaws.{sum-small}

-- ---- a line's sums

-- the sum over all rows, as many as there are
pub whole-sum : (rows : List Routed) (count : ℕ) → count ≡ length rows → (i j : ℕ) → sum_of (take count (demands (sents rows))) i j ≡ sum_of (demands (sents rows)) i j
whole-sum rows count e i j =
    let n = demands-length rows in
    ap (λ rs. sum_of rs i j) (take_all count (demands (sents rows)) (omega arith))

-- the sums of such rows have room in 32 bits
pub sum-fits : (rs : List Demand) → Amounts rs → (i j : ℕ) → sum_of rs i j < 4294967296
sum-fits rs amounts i j = omega (arith, sum-small desk.amount rs i j amounts.small, amounts.room)

-- those of the first n have, too
sum-first : (rs : List Demand) (n i j : ℕ) → sum_of (take n rs) i j ≤ sum_of rs i j
unfolding sum_of
sum-first rs zero i j = omega arith
sum-first [] (suc n) i j = omega arith
sum-first (r ∷ rs) (suc n) i j = omega (arith, sum-first rs n i j)

pub first-fits : (rs : List Demand) → Amounts rs → (n i j : ℕ) → sum_of (take n rs) i j < 4294967296
first-fits rs amounts n i j = omega (arith, sum-first rs n i j, sum-fits rs amounts i j)

-- ---- a line, entry by entry: the entries before node j are written, and what is left makes the
-- line whole (`Writing`)

all-numbers : (n t : ℕ) → get_or (numbers n) t Number ≡ Number
all-numbers zero t = refl
all-numbers (suc n) zero = refl
all-numbers (suc n) (suc t) = all-numbers n t

module _ (f : ℕ → ℕ) (n : ℕ) where
  abbrev pub entries : List ℕ
  entries = listed f 1 n

  abbrev shape : List Field
  shape = numbers (length entries)

  -- the entries from node j on are left
  abbrev pub Entering : (List ℕ → ℕ) → (List ℕ → ℕ → List ℕ → List ℕ) → List ℕ → ℕ → ℕ → ℕ
      → List ℕ → Type 0
  Entering room after old start j p buf =
      Writing room after (numbers (length entries)) entries old start (j - 1) p buf

  module _ {room : List ℕ → ℕ} {after : List ℕ → ℕ → List ℕ → List ℕ} (pass : PassLaws room after)
      (old : List ℕ) (start j p : ℕ) (buf : List ℕ) (inv : Entering room after old start j p buf) where
    as_many : length entries ≡ n
    as_many = listed-length f 1 n

    as_wide : length shape ≡ n
    as_wide = length-replicate (length entries) Number ∙ as_many

    module _ (low : 1 ≤ j) (there : j < n + 1) (v : ℕ) (is : v ≡ f j)
        (end : ℕ) (behind : end ≡ end_of (n - j)) where
      field-there : j - 1 < length shape
      field-there = omega (arith, low, there, as_wide)

      valued : length shape ≤ length entries
      valued = omega (arith, as_wide, as_many)

      behind_it : end ≡ end_of (length shape - (j - 1) - 1)
      behind_it =
          let left : n - j ≡ length shape - (j - 1) - 1 = omega (arith, low, as_wide) in
          behind ∙ ap end_of left

      entry-is : get_or entries (j - 1) 0 ≡ v
      entry-is =
          let k : 1 + (j - 1) ≡ j = omega (arith, low) in
          get_or-listed f 1 n (j - 1) (omega (arith, low, there)) ∙ ap f k ∙ sym is

      pub entry-fits : start + length (numbers_line entries) ≤ room old
          → p + length (spell Number v) + 1 ≤ room buf
      entry-fits h =
          let fits = field-fits pass shape entries old start (j - 1) p buf inv Number in
          rw (all-numbers (length entries) (j - 1), entry-is) at
          (fits field-there valued end behind_it h)

      pub entry-turn : (q : ℕ) (new : List ℕ) → Passed after buf p (spell Number v ++ end ∷ []) new q
          → Entering room after old start (j + 1) q new
      entry-turn q new w =
          let turn = writing-turn pass shape entries old start (j - 1) p buf inv Number in
          let next : j - 1 + 1 ≡ j + 1 - 1 = omega (arith, low) in
          rw next at
          (turn field-there valued end behind_it q new
          (rw (all-numbers (length entries) (j - 1), entry-is) w))

    pub entries-done : n + 1 ≤ j → Passed after old start (numbers_line entries) buf p
    entries-done h =
        let left : length shape ≤ j - 1 = omega (arith, h, as_wide) in
        writing-done pass shape entries old start (j - 1) p buf inv left

-- ---- the lines

matrix-more : (m : List (List ℕ)) (vs : List ℕ) → write_matrix (m ++ vs ∷ []) ≡ write_matrix m ++ numbers_line vs
unfolding write_matrix
matrix-more [] vs = append-nil _
matrix-more (us ∷ m) vs = ap (λ l. numbers_line us ++ l) (matrix-more m vs) ∙ sym (append_assoc (numbers_line us) (write_matrix m) _)

module _ (rs : List Demand) (n : ℕ) where
  abbrev pub sums_line : ℕ → List ℕ
  sums_line i = listed (sum_of rs i) 1 n

  -- the text of line k + 1, and of the first k lines
  abbrev pub line_text : ℕ → List ℕ
  line_text k = numbers_line (sums_line (k + 1))

  abbrev pub lines_text : ℕ → List ℕ
  lines_text k = write_matrix (listed sums_line 1 k)

  pub matrix-pieces : n ≤ desk.nodes → Pieces line_text lines_text
  unfolding listed write_matrix
  matrix-pieces l = record { none = refl; more = more-lines; short = short-line }
    where
      more-lines : (k : ℕ) → lines_text (k + 1) ≡ lines_text k ++ line_text k
      more-lines k =
          let e : 1 + k ≡ k + 1 = omega arith in
          ap write_matrix (rw e at (listed-snoc sums_line 1 k)) ∙ matrix-more (listed sums_line 1 k) (sums_line (k + 1))

      short-line : (k : ℕ) → length (line_text k) ≤ 1000
      short-line k =
          omega (arith, line-short (numbers (length (sums_line (k + 1)))) (sums_line (k + 1)), length-replicate (length (sums_line (k + 1))) Number, listed-length (sum_of rs (k + 1)) 1 n)

  -- so few can be measured
  pub matrix-placed : n ≤ desk.nodes → length (lines_text n) ≤ 18446744073709551615
  matrix-placed l = omega (arith, text-short line_text lines_text (matrix-pieces l) n)
