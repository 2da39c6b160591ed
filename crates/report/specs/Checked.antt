-- To believe: what a piece gives as a sheet by itself: its family, its unsplit peak and its across number where it is accepted; and the report over a text of many
-- plans.
use Rattle.std.specs.Prelude.{ℕ, ◌+◌, ◌≤◌, List, ◌≡◌, length}
use Rattle.ring.specs.Limits.{desk}
use mathlib.Core.List.{flatten}
use Rattle.ring.specs.Lists.{Each, Alike}
use Rattle.ring.specs.Sheet.{Sheet}
use Rattle.reasons.specs.declared.reason.Reason.{Reason}
use Rattle.checker.specs.Says.{Given, Accepted}
use Rattle.report.specs.declared.outcome.Outcome.{Outcome}
use Rattle.report.specs.declared.outcome.Outcome.TheVariants as outcome
use Rattle.report.specs.declared.totals.Report.{Report}
use Rattle.report.specs.Pieces.{pieces}
use Rattle.report.specs.Totals.{report_of}
use Rattle.report.specs.Report.{most_bytes, report_text}

-- what an accepted sheet gives
abbrev pub plan_of : Sheet → Outcome
plan_of x = outcome.Accepted x.ring.family x.unsplit_peak x.cut.across

-- a piece that is accepted, or for which a reason is given
pub data Gives (p : List ℕ) : Outcome → Type 0 where
  gives_plan : (a : Accepted desk p) → Gives p (plan_of a.x)
  gives_none : (reason : Reason) (line byte : ℕ) → Given desk p reason line byte → Gives p outcome.Refused

-- the report is of what each piece gives, in order
pub record ReportIs (t : List ℕ) (r : Report) : Type 0 where
  pub outcomes : List Outcome
  pub each : Alike Gives (pieces t) outcomes
  pub is : r ≡ report_of outcomes

-- every piece gives one thing
abbrev pub OneOutcome : Type 0
OneOutcome = (p : List ℕ) → (o : Outcome) × (Gives p o × ((other : Outcome) → Gives p other → other ≡ o))

-- every text has one report
abbrev pub OneReport : Type 0
OneReport = (t : List ℕ) → (r : Report) × (ReportIs t r × ((other : Report) → ReportIs t other → other ≡ r))

-- how many plans of either family are accepted
abbrev pub all_accepted : Report → ℕ
all_accepted r = r.sonet.accepted + r.sdh.accepted

-- each piece is counted once: as a plan of one family, or as refused
abbrev pub CountedOnce : Type 0
CountedOnce = (t : List ℕ) (r : Report) → ReportIs t r → all_accepted r + r.refused ≡ length (pieces t)

-- no report within the limit is longer: of each family T has 1 byte, the count at most 5 digits, the sum and the twice-peak 9, the across number 8, and each the byte
-- behind it, 37 in all; X has 1 byte, its count at most 5 digits, and each the byte behind it, 8 in all
abbrev pub report_room : ℕ
report_room = 82

abbrev pub ShortReport : Type 0
ShortReport = (t : List ℕ) (r : Report) → length t ≤ most_bytes → ReportIs t r →
    length (report_text r) ≤ report_room

-- a text of accepted sheets, one behind the other, has these as its pieces; all of them are counted as accepted, and none is refused
abbrev pub AllAccepted : Type 0
AllAccepted = (ts : List (List ℕ)) → Each (Accepted desk) ts → (pieces (flatten ts) ≡ ts) ×
    ((r : Report) → ReportIs (flatten ts) r → (all_accepted r ≡ length ts) × (r.refused ≡ 0))
