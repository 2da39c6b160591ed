-- To believe: what the desk of the limits before these answers, 32 nodes, 496 rows, numbers of 7 digits and no M. A table that it accepts is routed to the same
-- bytes; a sheet that it accepts is accepted, and each of its refusals but 2, 3 and 16 is given; and an accepted sheet beyond its limits it refuses by 2, 3 or 16.
use Rattle.std.specs.Prelude.{ℕ, ◌+◌, ◌≤◌, ◌<◌, List, ◌≡◌, length}
use Rattle.family.specs.declared.family.Family.TheVariants.{Sonet, Sdh}
use Rattle.ring.specs.Limits.{Limits, old, desk}
use Rattle.ring.specs.WithinLimits.{WithinLimits}
use Rattle.ring.specs.Ring.{ring_of}
use Rattle.text.specs.RingLine.{ring_line}
use Rattle.ring.specs.declared.types.Ring.{Ring}
use Rattle.ring.specs.declared.types.Demand.{Demand}
use Rattle.ring.specs.Sheet.{Sheet, plan}
use Rattle.reasons.specs.Findings as found
use Rattle.table.specs.Says as table
use Rattle.reasons.specs.declared.reason.Reason.{Reason}
use Rattle.reasons.specs.declared.reason.Reason.TheVariants.{Misshapen, RingSize, TooMany}
use Rattle.judge.specs.Findings.{findings}
use Rattle.checker.specs.Says.{ReadTo, Given}
use Rattle.engines.specs.declared.Engine.TheVariants.{Level}
use Rattle.router.specs.Plans.{rule_D}
use Rattle.ringkit.specs.Texts.{PlanDue}
use Rattle.laws.specs.OldText.{table_lines, sheet_lines, LinesSpelled}

-- ---- tables

-- within the limits before, t is the table of a ring and rows, and `text` is the sheet that the
-- four rules give for them: both line by line, and each number in 1 to 7 digits with no 0 in front
-- of another. Of the writer nothing is said
pub record RoutedBefore (t text : List ℕ) : Type 0 where
  pub ring : Ring
  pub rs : List Demand
  pub within : WithinLimits old ring rs
  pub short : length t ≤ old.bytes
  pub table : LinesSpelled old.digits (table_lines ring rs) t
  pub sheet : LinesSpelled old.digits (sheet_lines (plan ring rs)) text

-- a sheet is due to t within the limits before, and one that is written within those that hold now;
-- and each that is due by the one is each that is due by the other
pub record SameText (t : List ℕ) : Type 0 where
  pub text : List ℕ
  pub before : RoutedBefore t text
  pub now : PlanDue Level rule_D t text
  pub same : (a b : List ℕ) → RoutedBefore t a → PlanDue Level rule_D t b → a ≡ b

-- so it is for every table that the old desk accepts
abbrev pub SameBytes : Type 0
SameBytes = (t : List ℕ) → table.Accepted old t → SameText t

-- ---- sheets

-- the text is accepted as this sheet
pub record AcceptedAs (limits : Limits) (t : List ℕ) (x : Sheet) : Type 0 where
  pub is : ReadTo limits t x
  pub none : found.NoneHolds (findings limits x)

-- the byte of the R line where LF should stand where no M may: the last of the line of a SONET ring of as many nodes and fibres
abbrev pub byte_of_lf : Ring → ℕ
byte_of_lf ring = length (ring_line (ring_of ring.nodes ring.fibres Sonet))

-- what the old desk answers to a text that is accepted as this sheet: with the M of an SDH ring 2 on line 1, where LF should stand; without it 3 at n where it has
-- too many nodes, which stand at byte 3 of line 1; else 16 at the first row too many, where it has such a row; else it accepts it
pub record OldAnswers (t : List ℕ) (x : Sheet) : Type 0 where
  pub marked : x.ring.family ≡ Sdh → Given old t Misshapen 1 (byte_of_lf x.ring)
  pub nodes : x.ring.family ≡ Sonet → old.nodes < x.ring.nodes → Given old t RingSize 1 3
  pub rows : x.ring.family ≡ Sonet → x.ring.nodes ≤ old.nodes → old.rows < length x.rows → Given old t TooMany (old.rows + 2) 1
  pub within : x.ring.family ≡ Sonet → x.ring.nodes ≤ old.nodes → length x.rows ≤ old.rows → AcceptedAs old t x

-- so it is of every accepted sheet
abbrev pub BeyondOld : Type 0
BeyondOld = (t : List ℕ) (x : Sheet) → AcceptedAs desk t x → OldAnswers t x

-- what it accepts is accepted as the same sheet
abbrev pub OldAccepted : Type 0
OldAccepted = (t : List ℕ) (x : Sheet) → AcceptedAs old t x → AcceptedAs desk t x

-- what it refuses by another reason than 2, 3 and 16 is refused by that reason, with that line and byte
abbrev pub OldRefused : Type 0
OldRefused =
    (t : List ℕ) (r : Reason) (line byte : ℕ) → Given old t r line byte → (r ≡ Misshapen → ⊥) → (r ≡ RingSize → ⊥) → (r ≡ TooMany → ⊥) →
    Given desk t r line byte
