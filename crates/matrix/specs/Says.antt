-- To believe: what each reason says of a matrix's text (Rules, reasons), by its lines and the writer alone, and the byte that goes with it; which reason is given;
-- and what an accepted matrix is.
use Rattle.std.specs.Prelude.{ℕ, ◌+◌, ◌-◌, ◌≤◌, ◌<◌, List, [], ◌⊎◌, ◌≡◌, length, get_or}
use Rattle.ring.specs.Limits.{Limits}
use Rattle.ring.specs.Lists.{Each, Some}
use Rattle.ring.specs.TableRows.{PairBefore}
use Rattle.text.specs.Number.{limit}
use Rattle.text.specs.FirstFault.{Agrees, FirstFault}
use Rattle.text.specs.Shapes.{numbers, numbers_line}
use Rattle.lines.specs.Lines.{lines, LineIs}
use Rattle.reasons.specs.Reasons.{rank_of, FirstReason, NoReason}
use Rattle.lines.specs.DueBytes.{DueByte}
use Rattle.reasons.specs.declared.reason.Reason.{Reason}
use Rattle.reasons.specs.declared.reason.Reason.TheVariants.{TooLong, Misshapen, RingSize, TooMany, TooMuch, NotZero, NotSymmetric}
use Rattle.matrix.specs.Matrix.{entry_byte, IsSquare, Node}
use Rattle.matrix.specs.Demands.{rows_of_matrix}

-- ---- lines and entries

-- a line is the numbers vs, of which there is at least one
pub record NumbersAre (limits : Limits) (t : List ℕ) (line : ℕ) (vs : List ℕ) : Type 0 where
  pub text : LineIs (lines t) line (numbers_line vs)
  pub some : 1 ≤ length vs
  pub spelled : Each (λ v. v < limit limits.digits) vs

-- entry i, j, both counted from 1, is v
pub record EntryIs (limits : Limits) (t : List ℕ) (i j v : ℕ) : Type 0 where
  pub vs : List ℕ
  pub line : NumbersAre limits t i vs
  pub low : 1 ≤ j
  pub high : j ≤ length vs
  pub is : v ≡ get_or vs (j - 1) 0

-- ---- the reasons

-- 2: the first line is missing, or is no line of numbers
pub record NoFirstLine (limits : Limits) (t : List ℕ) (line : ℕ) : Type 0 where
  pub at : line ≡ 1
  pub none : (vs : List ℕ) → NumbersAre limits t 1 vs → ⊥

-- a later line that is due, behind one that is there, is missing or has not as many numbers as the first
pub record NoLaterLine (limits : Limits) (t : List ℕ) (line : ℕ) : Type 0 where
  pub us : List ℕ
  pub first : NumbersAre limits t 1 us
  pub before : ℕ
  pub next : line ≡ before + 1
  pub l : List ℕ
  pub there : LineIs (lines t) before l
  pub due : line ≤ length us
  pub none : (vs : List ℕ) → length vs ≡ length us → NumbersAre limits t line vs → ⊥

-- a line is left over
pub record LeftOver (limits : Limits) (t : List ℕ) (line : ℕ) : Type 0 where
  pub us : List ℕ
  pub first : NumbersAre limits t 1 us
  pub l : List ℕ
  pub is : LineIs (lines t) line l
  pub wrong : length us < line

-- 3: n, the number of fields of the first line, outside 2..64
pub record SaysRingSize (limits : Limits) (t : List ℕ) (line : ℕ) : Type 0 where
  pub at : line ≡ 1
  pub us : List ℕ
  pub first : NumbersAre limits t 1 us
  pub wrong : (length us < limits.fewest) ⊎ (limits.nodes < length us)

-- 7: an entry over 9,999
pub record SaysTooMuch (limits : Limits) (t : List ℕ) (line : ℕ) : Type 0 where
  pub vs : List ℕ
  pub is : NumbersAre limits t line vs
  pub wrong : Some (λ v. limits.amount < v) vs

-- 17: a diagonal entry not 0; 18: an entry that differs from its mirror entry
pub data WrongEntry (limits : Limits) (t : List ℕ) (i j : ℕ) : Reason → Type 0 where
  not_zero : {v : ℕ} → i ≡ j → EntryIs limits t i j v → (v ≡ 0 → ⊥) → WrongEntry limits t i j NotZero
  not_mirror : {v w : ℕ} → (i ≡ j → ⊥) → EntryIs limits t i j v → EntryIs limits t j i w → (v ≡ w → ⊥) → WrongEntry limits t i j NotSymmetric

-- at the first faulty entry in reading order, which is on this line
pub record FirstFaulty (limits : Limits) (t : List ℕ) (r : Reason) (line : ℕ) : Type 0 where
  pub j : ℕ
  pub wrong : WrongEntry limits t line j r
  pub first : (x y : ℕ) (s : Reason) → PairBefore x y line j → WrongEntry limits t x y s → ⊥

-- 16: it makes more rows than 1,024, which are judged together; as a whole, so that no line is named
pub record SaysTooMany (limits : Limits) (t : List ℕ) (line : ℕ) : Type 0 where
  pub at : line ≡ 0
  pub n : ℕ
  pub m : List (List ℕ)
  pub square : IsSquare n m
  pub lines : (i : ℕ) → Node n i → NumbersAre limits t i (get_or m (i - 1) [])
  pub wrong : limits.rows < length (rows_of_matrix n m)

-- what a reason says, with its line. The others judge no matrix
pub data MatrixSays (limits : Limits) (t : List ℕ) (line : ℕ) : Reason → Type 0 where
  says_too_long : line ≡ 0 → limits.bytes < length t → MatrixSays limits t line TooLong
  says_no_first_line : NoFirstLine limits t line → MatrixSays limits t line Misshapen
  says_no_later_line : NoLaterLine limits t line → MatrixSays limits t line Misshapen
  says_left_over : LeftOver limits t line → MatrixSays limits t line Misshapen
  says_ring_size : SaysRingSize limits t line → MatrixSays limits t line RingSize
  says_too_much : SaysTooMuch limits t line → MatrixSays limits t line TooMuch
  says_not_zero : FirstFaulty limits t NotZero line → MatrixSays limits t line NotZero
  says_not_symmetric : FirstFaulty limits t NotSymmetric line → MatrixSays limits t line NotSymmetric
  says_too_many : SaysTooMany limits t line → MatrixSays limits t line TooMany

abbrev pub Says : Limits → List ℕ → Reason → ℕ → Type 0
Says limits t r line = MatrixSays limits t line r

-- ---- the byte of the line that is given with a reason, counted from 1

-- p is the place of the first faulty byte of a line that may have any number of fields: for some number of fields a line may begin with the bytes before it, and for
-- none with it too
pub record NumbersFault (limits : Limits) (l : List ℕ) (p : ℕ) : Type 0 where
  pub m : ℕ
  pub some : 1 ≤ m
  pub before : Agrees limits.digits (numbers m) l p
  pub here : (m : ℕ) → 1 ≤ m → Agrees limits.digits (numbers m) l (p + 1) → ⊥

-- 2: any number of fields is due in the first line, and as many in a later one; a line is left over as a whole
pub data LineByte (limits : Limits) (t : List ℕ) (line byte : ℕ) : Type 0 where
  first_due : line ≡ 1 → DueByte t line (NumbersFault limits) byte → LineByte limits t line byte
  later_due : {us : List ℕ} → 2 ≤ line → NumbersAre limits t 1 us → line ≤ length us → DueByte t line (FirstFault limits.digits (numbers (length us))) byte → LineByte limits t line byte
  none_due : {us : List ℕ} → NumbersAre limits t 1 us → length us < line → byte ≡ 1 → LineByte limits t line byte

-- where entry j of a line starts
pub record EntryStarts (limits : Limits) (t : List ℕ) (line j byte : ℕ) : Type 0 where
  pub vs : List ℕ
  pub is : NumbersAre limits t line vs
  pub at : byte ≡ entry_byte vs (j - 1)

-- 7: where the first entry over 9,999 starts
pub record AmountByte (limits : Limits) (t : List ℕ) (line byte : ℕ) : Type 0 where
  pub j : ℕ
  pub v : ℕ
  pub is : EntryIs limits t line j v
  pub wrong : limits.amount < v
  pub first : (x w : ℕ) → x < j → EntryIs limits t line x w → w ≤ limits.amount
  pub starts : EntryStarts limits t line j byte

-- 17 and 18: where the first faulty entry starts
pub record FaultyByte (limits : Limits) (t : List ℕ) (r : Reason) (line byte : ℕ) : Type 0 where
  pub faulty : FirstFaulty limits t r line
  pub starts : EntryStarts limits t line faulty.j byte

-- the byte of the line that is given with a reason. 1 and 16 have line 0, and 3 judges the line as a whole
pub data MatrixByte (limits : Limits) (t : List ℕ) (line byte : ℕ) : Reason → Type 0 where
  at_none : byte ≡ 0 → MatrixByte limits t line byte TooLong
  at_fault : LineByte limits t line byte → MatrixByte limits t line byte Misshapen
  at_size : byte ≡ 1 → MatrixByte limits t line byte RingSize
  at_amount : AmountByte limits t line byte → MatrixByte limits t line byte TooMuch
  at_diagonal : FaultyByte limits t NotZero line byte → MatrixByte limits t line byte NotZero
  at_mirror : FaultyByte limits t NotSymmetric line byte → MatrixByte limits t line byte NotSymmetric
  at_rows : byte ≡ 0 → MatrixByte limits t line byte TooMany

abbrev pub ByteIs : Limits → List ℕ → Reason → ℕ → ℕ → Type 0
ByteIs limits t r line byte = MatrixByte limits t line byte r

-- ---- which is given

abbrev pub stage : Reason → ℕ
stage NotZero = 1
stage NotSymmetric = 1
stage TooMany = 2
stage _ = 0

-- what is tried earlier: 1, before all lines; then the line before, and on the same line the reason before; 17 and 18 behind all lines, and 16 behind them
abbrev pub Earlier : Reason → ℕ → Reason → ℕ → Type 0
Earlier r line s other =
    (stage r < stage s) ⊎ ((stage r ≡ stage s) × ((line < other) ⊎ ((line ≡ other) × (rank_of r < rank_of s))))

abbrev pub Given : Limits → List ℕ → Reason → ℕ → ℕ → Type 0
Given limits t = FirstReason (Says limits t) Earlier (ByteIs limits t)

-- a matrix is accepted when no reason holds that judges its own length or lines; the 20 that its reader is told is not in `Says`
abbrev pub Accepted : Limits → List ℕ → Type 0
Accepted limits t = NoReason (Says limits t)
