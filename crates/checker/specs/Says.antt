-- To believe: what checking a sheet's text gives (Rules, reasons): the refusal that reading it gives; or else the first finding against the values that it is
-- read to, on the line where that stands; and what an accepted sheet is.
use Rattle.std.specs.Prelude.{ℕ, ◌+◌, List, ◌≡◌, length}
use Rattle.ring.specs.Limits.{Limits}
use Rattle.ring.specs.Sheet.{Sheet}
use Rattle.reasons.specs.Findings as found
use Rattle.reasons.specs.declared.reason.Reason.{Reason}
use Rattle.reasons.specs.declared.reason.Reason.TheVariants.{WrongSum, WrongWay, WrongCut, WrongLink, WrongLast, NotTight, OverBound}
use Rattle.judge.specs.Findings.{findings}
use Rattle.sheet.specs.Range.{InRange}
use Rattle.sheet.specs.Says as reading
use Rattle.sheet.specs.WriteSheet.{write_sheet}

-- the text is read to these values: it is their sheet, and they are in range
pub record ReadTo (limits : Limits) (t : List ℕ) (x : Sheet) : Type 0 where
  pub text : t ≡ write_sheet x
  pub range : InRange limits x

-- where a finding against a sheet stands in its text, by reason and place: the line, and the byte of it. Behind the R line stand the rows, the cut, a line for
-- each link, and the last line; what is found against the sheet as a whole has line 0 and byte 0
pub data Stands (x : Sheet) : Reason → ℕ → ℕ → ℕ → Type 0 where
  of_sum : {k : ℕ} → Stands x WrongSum k (k + 1) 1
  of_way : {k : ℕ} → Stands x WrongWay k (k + 1) 1
  of_cut : {k : ℕ} → Stands x WrongCut k (length x.rows + 2) 1
  of_link : {k : ℕ} → Stands x WrongLink k (length x.rows + 2 + k) 1
  of_last : {k : ℕ} → Stands x WrongLast k (length x.rows + x.ring.nodes + 3) 1
  of_peak : {k : ℕ} → Stands x NotTight k 0 0
  of_bound : {k : ℕ} → Stands x OverBound k 0 0

-- a reason is given, with its line and its byte
pub data Given (limits : Limits) (t : List ℕ) (reason : Reason) (line byte : ℕ) : Type 0 where
  of_form : reading.Given limits t reason line byte → Given limits t reason line byte
  of_figures : (x : Sheet) (place : ℕ) → ReadTo limits t x → found.Given (findings limits x) reason place → Stands x reason place line byte → Given limits t reason line byte

-- the text is read to values against which nothing is found
pub record Accepted (limits : Limits) (t : List ℕ) : Type 0 where
  pub x : Sheet
  pub is : ReadTo limits t x
  pub none : found.NoneHolds (findings limits x)
