-- Internal: what is found against the values of a line: a reason, and the field that it is about; and of values without a line, its place.
use Rattle.std.specs.Prelude.{ℕ, Result, Option, Some, None, Ok, Err, List, [], ◌∷◌}
use Rattle.ring.specs.Limits.{Limits}
use Rattle.ring.specs.declared.types.Ring.{Ring}
use Rattle.ring.specs.declared.types.Demand.{Demand}
use Rattle.reasons.specs.Fields.{field_of, node_field}
use Rattle.reasons.specs.Findings.{found}
use Rattle.reasons.specs.Judge.{ring_verdict, row_verdict}
use Rattle.reasons.specs.Verdict.{Verdict}
use Rattle.reasons.specs.declared.reason.Reason.{Reason}
use Rattle.reasons.specs.declared.fault.Fault.{Fault}
use Rattle.reasons.specs.declared.finding.Finding.{Finding}

-- a verdict, by which field each reason is about
unfoldable pub verdict_found : Verdict → (Reason → ℕ) → Result Unit Fault
verdict_found (Ok tt) field = Ok tt
verdict_found (Err reason) field = Err (record { reason = reason; field = field reason })

-- against R n fibres
unfoldable pub ring_found : Limits → Ring → Result Unit Fault
unfolding verdict_found
ring_found limits ring = verdict_found (ring_verdict limits ring) (λ reason. field_of reason 0)

-- against D i j amount on a ring of n nodes, behind k rows of which the last is `above`
unfoldable pub row_found : Limits → ℕ → ℕ → Option Demand → Demand → Result Unit Fault
unfolding verdict_found node_field
row_found limits n k above r = verdict_found (row_verdict limits n k above r) (λ reason. field_of reason (node_field n r.first))

-- a fault as what is found at a place; or nothing is found
abbrev pub found_at : ℕ → Result Unit Fault → Result Unit Finding
found_at place (Ok tt) = Ok tt
found_at place (Err fault) = Err (found fault.reason place)

-- the last of some rows
abbrev pub last_demand : List Demand → Option Demand
last_demand [] = None
last_demand (r ∷ []) = Some r
last_demand (r ∷ q ∷ rs) = last_demand (q ∷ rs)
