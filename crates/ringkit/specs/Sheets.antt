-- To believe: what holds of sheets that are well-formed, accepted or routed (Rules, promises).
use Rattle.std.specs.Prelude.{ℕ, ◌*◌, ◌≤◌, List, ◌↔◌, ◌≡◌, length}
use Rattle.ring.specs.Division.{Divides}
use Rattle.ring.specs.Limits.{desk}
use Rattle.ring.specs.Paper.{PaperFigures}
use Rattle.ring.specs.Routing.{split_load, peak}
use Rattle.ring.specs.declared.types.Sent.{Sent}
use Rattle.ring.specs.Sheet.{Sheet, sents, demands}
use Rattle.ring.specs.True.{TrueSheet}
use Rattle.sheet.specs.Range as sheet_range
use Rattle.sheet.specs.WriteSheet.{write_sheet}
use Rattle.engines.specs.declared.Engine.{Engine}
use Rattle.engines.specs.declared.Engine.TheVariants.{Lowered}
use Rattle.engines.specs.Engine.{plan_by}
use Rattle.engines.specs.Minimal.{Minimal}
use Rattle.router.specs.Plans.{Rule}
use Rattle.checker.specs.Says.{Accepted}
use Rattle.ringkit.specs.Answers.{Checked, yes, NoPairOf}
use Rattle.ringkit.specs.Says.{Answer, Success}
use Rattle.ringkit.specs.Texts.{SheetOf, PlanDue}

-- the sheet that a well-formed text is; the checker says yes exactly when it is a true one
pub record FormedSheet (t : List ℕ) (r : Checked) : Type 0 where
  pub x : Sheet
  pub text : t ≡ write_sheet x
  pub range : sheet_range.InRange desk x
  pub says_yes : (r ≡ yes) ↔ TrueSheet x

-- an accepted sheet: its figures are those of Schrijver, Seymour and Winkler (ring/Paper), and no division of its demands, however fine, has a lower peak
pub record BestSheet (t : List ℕ) : Type 0 where
  pub x : Sheet
  pub of : SheetOf t x
  pub figures : PaperFigures x
  pub no_lower : (q : ℕ) (ss : List Sent) → Divides q (demands (sents x.rows)) ss → q * x.cut.across ≤ 2 * peak (split_load ss) x.ring.nodes

-- a table has a sheet by a rule; with room for it, it is written; its demands are the table's rows; the checker accepts it, it is the best, it has no parallel
-- split pair, and its unsplit peak is no higher than that of rule D by the same engine
pub record RoutedWell (engine : Engine) (rule : Rule) (t old new : List ℕ) (r : Answer) : Type 0 where
  pub sheet : List ℕ
  pub due : PlanDue engine rule t sheet
  pub written : length sheet ≤ length old → Success sheet old new r
  pub best : BestSheet sheet
  pub demands : demands (sents best.x.rows) ≡ due.rs
  pub checked : Accepted desk sheet
  pub no_pair : NoPairOf sheet
  pub no_higher : due.x.unsplit_peak ≤ (plan_by engine due.ring due.rs).unsplit_peak

-- of the sheet that is due by lowered rooms: no split routing of the table's rows, however finely they are divided, is at most as large on every link and smaller on one
abbrev pub NothingBelowSheet : Rule → List ℕ → Type 0
NothingBelowSheet rule t = (sheet : List ℕ) → (due : PlanDue Lowered rule t sheet) → Minimal due.ring.nodes due.rs (sents due.x.rows)
