-- To believe: what one call says of the text that another wrote.
use Rattle.std.specs.Prelude.{ℕ, ◌*◌, ◌≤◌, List, ◌≡◌, ◌≢◌, length, IfOk, IfErr}
use Rattle.ring.specs.Limits.{desk}
use Rattle.ring.specs.Lists.{Each}
use Rattle.ring.specs.Sheet.{Sheet}
use Rattle.table.specs.Says as table
use Rattle.checker.specs.Says as sheet
use Rattle.sheet.specs.Range.{InRange, longest}
use Rattle.sheet.specs.WriteSheet.{write_sheet}
use Rattle.ringkit.specs.Says.{Answer, Success}
use Rattle.engines.specs.declared.Engine.{Engine}
use Rattle.router.specs.Plans.{Rule, rule_D, best_choice}
use Rattle.least.specs.declared.rule.LeastRule.{LeastRule}
use Rattle.least.specs.declared.rule.LeastRule.TheVariants.{Turns, BestChoice, RuleD}
use Rattle.least.specs.declared.Least.{Least}
use Rattle.ringkit.specs.LeastPeak.{LeastAnswer, least_table, LeastPromise}
use Rattle.ringkit.specs.Turning.{TurnAnswer, turned_table, TurnPromise}
use Rattle.turns.specs.declared.Turned.{Turned}
use Rattle.ringkit.specs.Texts.{SheetOf, Takes}
use Rattle.ringkit.specs.Promises.{PlanPromise, RewriteSheetPromise}
use Rattle.report_calls.specs.Reports.{ReportPromise, Joined, AllCounted}
use Rattle.reasons.specs.declared.reason.Reason.TheVariants.{TooManySplit}
use Rattle.ringkit.specs.Answers.{Checked, yes, CheckPromise}
use Rattle.ringkit.specs.Crossing.{CrossingAnswer, all_cross, CrossingPromise}
use Rattle.rows.specs.declared.sheet_row.SheetRow.{SheetRow}
use Rattle.ringkit.specs.Judging.{Judged, sheet_given, valid, JudgePromise}

-- an accepted sheet, read and written afresh, is with room the same bytes
abbrev pub SheetThereAndBack : Type 0
SheetThereAndBack =
    (t old new : List ℕ) (r : Answer) → RewriteSheetPromise t old new r
    → sheet.Accepted desk t → length t ≤ length old → Success t old new r

-- a call wrote a text to which checking says yes
pub record WroteChecked (old new : List ℕ) (r : Answer) : Type 0 where
  pub text : List ℕ
  pub success : Success text old new r
  pub checked : (q : Checked) → CheckPromise text q → q ≡ yes

-- with room for the longest sheet, routing an accepted table does, by each engine and each rule that takes it
abbrev pub RoutedChecked : Type 0
RoutedChecked =
    (engine : Engine) (rule : Rule) (t old new : List ℕ) (r : Answer) → PlanPromise engine rule t old new r
    → table.Accepted desk t → Takes engine rule t → longest desk ≤ length old → WroteChecked old new r

-- a call wrote the text of a sheet, and to its values, lent as rows and links, judging says yes; in range it is the text of no other (`SameSheet`)
pub record WroteJudged (old new : List ℕ) (r : Answer) : Type 0 where
  pub x : Sheet
  pub range : InRange desk x
  pub success : Success (write_sheet x) old new r
  pub rows : List SheetRow
  pub same : sheet_given (record { ring = x.ring; cut = x.cut; unsplit_peak = x.unsplit_peak; size = x.size }) rows x.links ≡ x
  pub judged : (q : Judged) → JudgePromise x q → q ≡ valid

-- with room for the longest sheet, routing an accepted table does, by each engine and each rule that takes it
abbrev pub RoutedJudged : Type 0
RoutedJudged =
    (engine : Engine) (rule : Rule) (t old new : List ℕ) (r : Answer) → PlanPromise engine rule t old new r
    → table.Accepted desk t → Takes engine rule t → longest desk ≤ length old → WroteJudged old new r

-- some call of routing wrote this sheet, by whichever engine and rule
pub record WroteSheet (sheet : List ℕ) : Type 0 where
  pub engine : Engine
  pub rule : Rule
  pub t : List ℕ
  pub old : List ℕ
  pub new : List ℕ
  pub r : Answer
  pub routes : PlanPromise engine rule t old new r
  pub success : Success sheet old new r

-- a report over such sheets, one behind the other and within the limit, counts all of them as accepted
abbrev pub RoutedCounted : Type 0
RoutedCounted =
    (sheets : List (List ℕ)) → Each WroteSheet sheets → (t : List ℕ) → Joined sheets t
    → (old new : List ℕ) (r : Answer) → ReportPromise t old new r → AllCounted t (length sheets) old new r

-- a text is the sheet of a plan of which twice the unsplit peak is at most the bound
pub record SheetWithin (bound : ℕ) (sheet : List ℕ) : Type 0 where
  pub x : Sheet
  pub of : SheetOf sheet x
  pub peak : 2 * x.unsplit_peak ≤ bound

-- a call of routing keeps to a bound: its refusal is not 23, and what it writes is such a sheet
pub record KeepsBound (bound : ℕ) (old new : List ℕ) (r : Answer) : Type 0 where
  pub few : IfErr r (λ why. why.reason ≢ TooManySplit)
  pub sheet : (text : List ℕ) → Success text old new r → SheetWithin bound text

-- where the call that asks whether all rows cross answers a bound, both calls of routing by the best choice keep to it
abbrev pub CrossedRouted : Type 0
CrossedRouted =
    (t : List ℕ) (bound : ℕ) (answer : CrossingAnswer) → CrossingPromise t answer → answer ≡ all_cross bound
    → (engine : Engine) (old new : List ℕ) (r : Answer) → PlanPromise engine best_choice t old new r → KeepsBound bound old new r

-- ---- the least of five rules

-- the least peak of a text is at most the peak to which its rows are turned
abbrev pub LeastUpToTurned : Type 0
LeastUpToTurned =
    (t old new : List ℕ) (r : LeastAnswer) → LeastPromise t old new r
    → (from to : List ℕ) (q : TurnAnswer) → TurnPromise t from to q → IfOk r (λ x. IfOk q (λ y. x.least.peak ≤ y.turned.peak))

-- and at most the unsplit peak of each sheet that routing writes for it, by each engine and each rule
abbrev pub LeastUpToRouted : Type 0
LeastUpToRouted =
    (t old new : List ℕ) (r : LeastAnswer) → LeastPromise t old new r
    → (engine : Engine) (rule : Rule) (from to : List ℕ) (q : Answer) → PlanPromise engine rule t from to q
    → (sheet : List ℕ) (y : Sheet) → Success sheet from to q → SheetOf sheet y → IfOk r (λ x. x.least.peak ≤ y.unsplit_peak)

-- the call that turns a table's rows comes to this peak
pub record TurnedPeak (peak : ℕ) (r : TurnAnswer) : Type 0 where
  pub x : Turned
  pub count : ℕ
  pub answer : r ≡ turned_table x count
  pub same : x.peak ≡ peak

-- a call of routing writes a sheet with this peak
pub record WrotePeak (peak : ℕ) (old new : List ℕ) (r : Answer) : Type 0 where
  pub sheet : List ℕ
  pub x : Sheet
  pub of : SheetOf sheet x
  pub success : Success sheet old new r
  pub same : x.unsplit_peak ≡ peak

-- with room for the longest sheet, routing a text by these does
abbrev pub RoutedTo : Engine → Rule → List ℕ → ℕ → Type 0
RoutedTo engine rule t peak = (old new : List ℕ) (r : Answer) → PlanPromise engine rule t old new r → longest desk ≤ length old → WrotePeak peak old new r

-- the call of a rule comes to this peak
abbrev pub ComesTo : List ℕ → ℕ → LeastRule → Type 0
ComesTo t peak Turns = (old new : List ℕ) (r : TurnAnswer) → TurnPromise t old new r → TurnedPeak peak r
ComesTo t peak (BestChoice engine) = RoutedTo engine best_choice t peak
ComesTo t peak (RuleD engine) = RoutedTo engine rule_D t peak

-- the call of the rule that is answered comes to the least peak
abbrev pub LeastComesFrom : Type 0
LeastComesFrom =
    (t old new : List ℕ) (x : Least) (count : ℕ) → LeastPromise t old new (least_table x count) → ComesTo t x.peak x.rule
