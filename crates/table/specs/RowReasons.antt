-- To believe: what each reason says of a text whose first line is a ring and whose rows each stand on a line behind it, as in a table and in a sheet (Rules, reasons), by
-- its lines and the writer alone; and which byte of the line goes with it.
use Rattle.std.specs.Prelude.{ℕ, ◌+◌, ◌≤◌, ◌<◌, List, ◌⊎◌, ◌≡◌, length}
use Rattle.text.specs.FieldByte.{row_byte}
use Rattle.text.specs.RingLine.{ring_byte, RingLineIs}
use Rattle.ring.specs.Limits.{Limits}
use Rattle.ring.specs.declared.types.Ring.{Ring}
use Rattle.ring.specs.declared.types.Demand.{Demand}
use Rattle.ring.specs.LineSize.{IsFibres}
use Rattle.ring.specs.TableRows.{PairBefore}
use Rattle.lines.specs.Lines.{lines, LineIs}
use Rattle.reasons.specs.declared.reason.Reason.{Reason}
use Rattle.reasons.specs.declared.reason.Reason.TheVariants.{TooLong, Misshapen, RingSize, Fibres, NoSuchNode, NotBelow, OutOfOrder, TooMany, TooMuch}
use Rattle.reasons.specs.RowFindings.{NoNode}

-- the first line is the R line of this ring
pub record RingIs (limits : Limits) (t : List ℕ) (ring : Ring) : Type 0 where
  pub line : List ℕ
  pub first : LineIs (lines t) 1 line
  pub is : RingLineIs limits.marks limits.digits line ring

-- by what it is for a line to hold a row of this demand, and what 2 says of a line
module _ (limits : Limits) (t : List ℕ) (Row : ℕ → Demand → Type 0) (WrongLine : ℕ → Type 0) where
  -- what a reason says, with its line. The others are not given of a text by its lines: 8 to 14 are of a sheet, by its values
  pub data RowsSay (line : ℕ) : Reason → Type 0 where
    -- 1: text over 32,768 bytes
    says_too_long : line ≡ 0 → limits.bytes < length t → RowsSay line TooLong
    -- 2: line of the wrong shape, missing, or left over
    says_misshapen : WrongLine line → RowsSay line Misshapen
    -- 3: n outside 2..64
    says_ring_size : {ring : Ring} → line ≡ 1 → RingIs limits t ring → (ring.nodes < limits.fewest) ⊎ (limits.nodes < ring.nodes) → RowsSay line RingSize
    -- 20: fibres neither 2 nor 4
    says_fibres : {ring : Ring} → line ≡ 1 → RingIs limits t ring → (IsFibres ring.fibres → ⊥) → RowsSay line Fibres
    -- 4: a node outside 1..n
    says_no_such_node : {ring : Ring} {r : Demand} → RingIs limits t ring → Row line r → NoNode ring.nodes r.first ⊎ NoNode ring.nodes r.second → RowsSay line NoSuchNode
    -- 5: first node not below second
    says_not_below : {r : Demand} → Row line r → r.second ≤ r.first → RowsSay line NotBelow
    -- 6: row's nodes below the row before, by first node, then second
    says_out_of_order : {before : ℕ} {q r : Demand} → line ≡ before + 1 → Row before q → Row line r → PairBefore r.first r.second q.first q.second → RowsSay line OutOfOrder
    -- 16: more than 1,024 rows; the first stands on line 2
    says_too_many : {r : Demand} → Row line r → limits.rows + 1 < line → RowsSay line TooMany
    -- 7: amount over 9,999
    says_too_much : {r : Demand} → Row line r → limits.amount < r.amount → RowsSay line TooMuch

-- by what a row is, and the byte that goes with 2
module _ (limits : Limits) (t : List ℕ) (Row : ℕ → Demand → Type 0) (LineByte : ℕ → ℕ → Type 0) where
  -- the byte of the line that is given with a reason, counted from 1
  pub data RowsByte (line byte : ℕ) : Reason → Type 0 where
    -- 1 has line 0
    at_none : byte ≡ 0 → RowsByte line byte TooLong
    at_fault : LineByte line byte → RowsByte line byte Misshapen
    -- 3: where n starts, which is field 1
    at_size : {ring : Ring} → RingIs limits t ring → byte ≡ ring_byte ring 1 → RowsByte line byte RingSize
    -- 20: where fibres starts, which is field 2
    at_fibres : {ring : Ring} → RingIs limits t ring → byte ≡ ring_byte ring 2 → RowsByte line byte Fibres
    -- 4: where the first of the two nodes that is outside starts
    at_first_node : {ring : Ring} {r : Demand} → RingIs limits t ring → Row line r → NoNode ring.nodes r.first → byte ≡ row_byte r 1 → RowsByte line byte NoSuchNode
    at_second_node : {ring : Ring} {r : Demand} → RingIs limits t ring → Row line r → (NoNode ring.nodes r.first → ⊥) → NoNode ring.nodes r.second → byte ≡ row_byte r 2 → RowsByte line byte NoSuchNode
    -- 7: where the amount starts
    at_amount : {r : Demand} → Row line r → byte ≡ row_byte r 3 → RowsByte line byte TooMuch
    -- 5, 6 and 16 judge the line as a whole
    at_pair : byte ≡ 1 → RowsByte line byte NotBelow
    at_order : byte ≡ 1 → RowsByte line byte OutOfOrder
    at_count : byte ≡ 1 → RowsByte line byte TooMany
