-- To believe: what each call promises that reads a text and fills a buffer, by what is due to the text and which refusal is given to it.
use Rattle.std.specs.Prelude.{ℕ, List}
use Rattle.ring.specs.Limits.{desk}
use Rattle.checker.specs.Says as sheet
use Rattle.engines.specs.declared.Engine.{Engine}
use Rattle.router.specs.Plans.{Rule}
use Rattle.table.specs.Says as table
use Rattle.ringkit.specs.Says.{Answer, CallPromise}
use Rattle.ringkit.specs.Texts.{Itself, PlanDue, PlanGiven}

-- routing a table by a rule: the sheet of that plan; or the table's first reason, or, of the best choice, 23
abbrev pub PlanPromise : Engine → Rule → List ℕ → List ℕ → List ℕ → Answer → Type 0
PlanPromise engine rule t = CallPromise (PlanDue engine rule t) (PlanGiven engine rule t)

-- reading a table and writing its values afresh: the same bytes, or the table's first reason
abbrev pub RewriteTablePromise : List ℕ → List ℕ → List ℕ → Answer → Type 0
RewriteTablePromise t = CallPromise (Itself (table.Accepted desk t) t) (table.Given desk t)

-- reading a sheet and writing its values afresh: the same bytes, or the sheet's first reason
abbrev pub RewriteSheetPromise : List ℕ → List ℕ → List ℕ → Answer → Type 0
RewriteSheetPromise t = CallPromise (Itself (sheet.Accepted desk t) t) (sheet.Given desk t)
