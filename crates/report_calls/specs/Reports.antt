-- To believe: what is due to a text of many plans, and what holds of accepted sheets in one text (Rules, promises).
use Rattle.std.specs.Prelude.{ℕ, ◌≤◌, ◌<◌, List, ◌≡◌, length}
use mathlib.Core.List.{flatten}
use Rattle.reasons.specs.declared.reason.Reason.{Reason}
use Rattle.reasons.specs.declared.reason.Reason.TheVariants.{PlansTooLong}
use Rattle.report.specs.declared.totals.Report.{Report}
use Rattle.report.specs.Report.{most_bytes, report_text}
use Rattle.report.specs.Checked.{ReportIs, all_accepted}
use Rattle.ringkit.specs.Says.{Answer, Success, CallPromise}

-- the text that is due to a text of many plans within the limit: the lines of its report
pub record ReportDue (t text : List ℕ) : Type 0 where
  pub within : length t ≤ most_bytes
  pub report : Report
  pub of : ReportIs t report
  pub is : text ≡ report_text report

-- what is given to a longer one: 24, with line 0 and byte 0
pub data ReportGiven (t : List ℕ) : Reason → ℕ → ℕ → Type 0 where
  of_its_length : most_bytes < length t → ReportGiven t PlansTooLong 0 0

-- making a report over a text of many plans: its lines, or 24
abbrev pub ReportPromise : List ℕ → List ℕ → List ℕ → Answer → Type 0
ReportPromise t = CallPromise (ReportDue t) (ReportGiven t)

-- t is these plans, one behind the other, within the limit of a report
pub record Joined (plans : List (List ℕ)) (t : List ℕ) : Type 0 where
  pub text : t ≡ flatten plans
  pub within : length t ≤ most_bytes

-- the report of t counts so many plans as accepted, of both families together, and none as refused; with room for its lines, they are written
pub record AllCounted (t : List ℕ) (count : ℕ) (old new : List ℕ) (r : Answer) : Type 0 where
  pub report : Report
  pub of : ReportIs t report
  pub accepted : all_accepted report ≡ count
  pub refused : report.refused ≡ 0
  pub written : length (report_text report) ≤ length old → Success (report_text report) old new r
