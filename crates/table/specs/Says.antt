-- To believe: what each reason says of a table's text (Rules, reasons), by its lines and the writer alone, and which byte of the line goes with it; which reason is
-- given; and what an accepted table is.
use Rattle.std.specs.Prelude.{ℕ, ◌≤◌, ◌<◌, List, ◌≡◌}
use Rattle.text.specs.Number.{limit}
use Rattle.text.specs.Shapes.{row_shape, row_line}
use Rattle.text.specs.RingLine.{RingFault}
use Rattle.ring.specs.Limits.{Limits}
use Rattle.ring.specs.declared.types.Ring.{Ring}
use Rattle.ring.specs.declared.types.Demand.{Demand}
use Rattle.lines.specs.Lines.{lines, LineIs}
use Rattle.reasons.specs.Reasons.{FirstReason, NoReason, Earlier}
use Rattle.table.specs.RowReasons.{RingIs, RowsSay, RowsByte}
use Rattle.lines.specs.DueBytes.{DueByte, ShapeByte}
use Rattle.reasons.specs.declared.reason.Reason.{Reason}

-- a later line is D i j amount
pub record RowIs (limits : Limits) (t : List ℕ) (line : ℕ) (r : Demand) : Type 0 where
  pub later : 2 ≤ line
  pub text : LineIs (lines t) line (row_line r.first r.second r.amount)
  pub spelled : (r.first < limit limits.digits) × ((r.second < limit limits.digits) × (r.amount < limit limits.digits))

-- 2: the first line is missing, or is no R line; a later line is no D line
pub data WrongLine (limits : Limits) (t : List ℕ) (line : ℕ) : Type 0 where
  no_ring : line ≡ 1 → ((ring : Ring) → RingIs limits t ring → ⊥) → WrongLine limits t line
  no_row : {l : List ℕ} → 2 ≤ line → LineIs (lines t) line l → ((r : Demand) → RowIs limits t line r → ⊥) → WrongLine limits t line

-- what a reason says, with its line
abbrev pub Says : Limits → List ℕ → Reason → ℕ → Type 0
Says limits t r line = RowsSay limits t (RowIs limits t) (WrongLine limits t) line r

-- the byte that goes with 2, by the shape that is due, of an R line by the shapes of both families
pub data LineByte (limits : Limits) (t : List ℕ) (line byte : ℕ) : Type 0 where
  ring_due : line ≡ 1 → DueByte t line (RingFault limits.marks limits.digits) byte → LineByte limits t line byte
  row_due : 2 ≤ line → ShapeByte limits t row_shape line byte → LineByte limits t line byte

-- the byte of a reason that holds on a line
abbrev pub ByteIs : Limits → List ℕ → Reason → ℕ → ℕ → Type 0
ByteIs limits t r line byte = RowsByte limits t (RowIs limits t) (LineByte limits t) line byte r

-- which is given
abbrev pub Given : Limits → List ℕ → Reason → ℕ → ℕ → Type 0
Given limits t = FirstReason (Says limits t) Earlier (ByteIs limits t)

-- a table is accepted when no reason holds that judges its own length or lines; what a call refuses besides, such as 15, is not in `Says`
abbrev pub Accepted : Limits → List ℕ → Type 0
Accepted limits t = NoReason (Says limits t)
