-- To believe: the calls of the working table (Rules, the working table): what each refuses, in which order, and what an accepted one answers and makes of the
-- list of places.
use Rattle.std.specs.Prelude.{ℕ, ◌-◌, None, Result, Ok, Err, ◌≡◌, set, replicate}
use Rattle.ring.specs.Limits.{desk}
use Rattle.ring.specs.declared.types.Ring.{Ring}
use Rattle.ring.specs.declared.types.Demand.{Demand}
use Rattle.ring.specs.RuleA.{rule_a}
use Rattle.reasons.specs.Findings.{Findings, nothing, finding, then, Given, NoneHolds}
use Rattle.reasons.specs.RowFindings.{ring_findings, demand_findings}
use Rattle.reasons.specs.declared.reason.Reason.{Reason}
use Rattle.reasons.specs.declared.reason.Reason.TheVariants.{NoRow, Full}
use Rattle.work.specs.Places.{Place, empty, holds, PlaceTable, rows_held, HoldsNone, AllTaken, LowestFree}
use Rattle.work.specs.declared.answer.Placed.{Placed}

-- the calls that alter a table; places count from 1
pub data Call : Type 0 where
  start : Ring → Call
  add : Demand → Call
  change : ℕ → Demand → Call
  remove : ℕ → Call

-- a call answers a place and a cut, or why it is refused
abbrev pub WorkAnswer : Type 0
WorkAnswer = Result Placed Reason

-- ---- reasons in their order, each with what it says; a call judges no row or link of a sheet, and so the place is 0

-- start: those of the ring; else: the place named holds no row; then those of the row, which stands behind no other (so neither 6 nor 16
-- holds); then for adding: all places are taken
unfoldable pub findings : PlaceTable → Call → Findings
findings t (start ring) = ring_findings desk ring
findings t (add r) = then (demand_findings desk t.ring.nodes 0 None r) (finding (AllTaken t.places) Full 0 nothing)
findings t (change p r) = finding (HoldsNone t.places p) NoRow 0 (demand_findings desk t.ring.nodes 0 None r)
findings t (remove p) = finding (HoldsNone t.places p) NoRow 0 nothing

-- ---- what is made and answered where none of them holds

-- the place with `k` places before it becomes x
abbrev pub with_place : PlaceTable → ℕ → Place → PlaceTable
with_place t k x = record { ring = t.ring; places = set t.places k x }

-- the table of a ring whose 1,024 places are all empty
abbrev pub fresh_table : Ring → PlaceTable
fresh_table ring = record { ring = ring; places = replicate desk.rows empty }

-- the place that an accepted call names, and the table that it makes of t
pub data Makes (t : PlaceTable) : Call → ℕ → PlaceTable → Type 0 where
  starts : {ring : Ring} → Makes t (start ring) 0 (fresh_table ring)
  adds : {r : Demand} {p : ℕ} → LowestFree t.places p → Makes t (add r) p (with_place t (p - 1) (holds r))
  changes : {p : ℕ} {r : Demand} → Makes t (change p r) p (with_place t (p - 1) (holds r))
  removes : {p : ℕ} → Makes t (remove p) p (with_place t (p - 1) empty)

-- it answers the place and rule A's cut of the rows then held
abbrev pub acceptance : ℕ → PlaceTable → WorkAnswer
acceptance p u = Ok (record { place = p; cut = rule_a u.ring.nodes (rows_held u.places) })

-- what a call on the table t answers, and the table u behind it, which is t where it is refused: one of the two is the case
pub data Does (t : PlaceTable) (c : Call) (a : WorkAnswer) (u : PlaceTable) : Type 0 where
  refused : (reason : Reason) → Given (findings t c) reason 0 → a ≡ Err reason → u ≡ t → Does t c a u
  accepted : {p : ℕ} → NoneHolds (findings t c) → Makes t c p u → a ≡ acceptance p u → Does t c a u
