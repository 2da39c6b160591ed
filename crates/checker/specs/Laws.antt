-- To believe: what holds of all accepted sheets at once, each the contract of a function that does nothing.
use Rattle.std.specs.Prelude.{ℕ, ◌*◌, ◌≤◌, List, ◌↔◌}
use Rattle.ring.specs.Division.{Divides}
use Rattle.ring.specs.Limits.{Limits, desk}
use Rattle.ring.specs.declared.types.Ring.{Ring}
use Rattle.ring.specs.declared.types.Demand.{Demand}
use Rattle.ring.specs.Routing.{split_load, peak}
use Rattle.ring.specs.declared.types.Sent.{Sent}
use Rattle.ring.specs.Sheet.{Sheet, sents, demands, plan}
use Rattle.ring.specs.True.{TrueSheet}
use Rattle.reasons.specs.Reasons.{rank_of}
use Rattle.table.specs.Table as table
use Rattle.reasons.specs.declared.reason.Reason.{Reason}
use Rattle.reasons.specs.declared.reason.Reason.TheVariants.{WrongSum, OverBound}
use Rattle.judge.specs.Findings.{Fits}
use Rattle.sheet.specs.Range.{InRange}
use Rattle.sheet.specs.Says.{WellFormed}
use Rattle.sheet.specs.WriteSheet.{write_sheet}
use Rattle.checker.specs.Says.{Given, Accepted}

-- a sheet in range is accepted, once it is written, where it is a true sheet
abbrev pub TrueAccepted : Limits → Type 0
TrueAccepted limits = (x : Sheet) → InRange limits x → TrueSheet x → Accepted limits (write_sheet x)

-- the plan that the four rules give for a table in the desk's range is an accepted sheet
abbrev pub PlanAccepted : Type 0
PlanAccepted = (ring : Ring) (rs : List Demand) → table.InRange desk ring rs → Accepted desk (write_sheet (plan ring rs))

-- no division of the demands of an accepted sheet, however fine, has a lower peak
abbrev pub NoLowerPeak : Limits → Type 0
NoLowerPeak limits =
    (x : Sheet) → InRange limits x → Accepted limits (write_sheet x) → (q : ℕ) (ss : List Sent) →
    Divides q (demands (sents x.rows)) ss → q * x.cut.across ≤ 2 * peak (split_load ss) x.ring.nodes

-- well-formed is exactly what would not be refused if 8 to 14 were never given: each refusal that it may get is one of them
abbrev pub FormedIs : Limits → Type 0
FormedIs limits =
    (t : List ℕ) → WellFormed limits t ↔ ((r : Reason) (line byte : ℕ) → Given limits t r line byte → (rank_of WrongSum ≤ rank_of r) × (rank_of r ≤ rank_of OverBound))

-- values that judging accepts are in range: so their sheet, written, is accepted (`TrueAccepted`)
abbrev pub JudgedInRange : Type 0
JudgedInRange = (x : Sheet) → Fits desk x → TrueSheet x → InRange desk x
