-- Internal: reading a table: reason 1 first, then lines in order, and in a line the reasons in their order.
use Rattle.std.specs.Prelude.{ℕ, ◌+◌, cond, List, [], ◌∷◌, ◌++◌, length, ltb, get_or, Result, Ok}
use Rattle.ring.specs.Demand.{demand}
use Rattle.ring.specs.declared.types.Demand.{Demand}
use Rattle.text.specs.Shapes.{ring_shape, row_shape}
use Rattle.text.specs.ReadRing.{read_ring}
use Rattle.ring.specs.Limits.{Limits}
use Rattle.ring.specs.declared.types.Ring.{Ring}
use Rattle.lines.specs.Lines.{lines}
use Rattle.reasons.specs.Faults.{ring_found, row_found, last_demand}
use Rattle.reasons.specs.AndThen.{and_then}
use Rattle.lines.specs.OnLine.{values_on, passed, line_judged}
use Rattle.reasons.specs.declared.reason.Reason.TheVariants.{TooLong, Misshapen}
use Rattle.reasons.specs.declared.reason.Refusal.{Refusal}
use Rattle.reasons.specs.Refusals.{refuse}

-- a ring and its rows
abbrev pub Table : Type 0
Table = Ring × List Demand

-- ---- one line, by its values; that of the letter is the first

abbrev pub demand_in : List ℕ → Demand
demand_in vs = demand (get_or vs 1 0) (get_or vs 2 0) (get_or vs 3 0)

-- R n fibres, of either family: what is found against it is about n or the fibres, which start at the same bytes in either line
unfoldable pub ring_on : Limits → List ℕ → Result Ring Refusal
unfolding values_on passed ring_found
ring_on limits l = and_then (values_on 1 (read_ring limits.marks limits.digits l)) λ ring. passed 1 ring_shape (0 ∷ ring.nodes ∷ ring.fibres ∷ []) (ring_found limits ring) ring

-- D i j amount, behind the rows rs, of which the first stands on line 2
unfoldable pub row_on : Limits → Ring → List Demand → List ℕ → Result Demand Refusal
unfolding line_judged row_found
row_on limits ring rs l = line_judged limits.digits (length rs + 2) row_shape demand_in (row_found limits ring.nodes (length rs) (last_demand rs)) l

-- ---- the lines in order

-- the rows of the lines ls, behind the rows rs
unfoldable pub rows_on_lines : Limits → Ring → List Demand → List (List ℕ) → Result Table Refusal
unfolding row_on
rows_on_lines limits ring rs [] = Ok (ring, rs)
rows_on_lines limits ring rs (l ∷ ls) = and_then (row_on limits ring rs l) λ r. rows_on_lines limits ring (rs ++ r ∷ []) ls

-- R n fibres, then rows; a missing first line is line 1
unfoldable pub table_lines : Limits → List (List ℕ) → Result Table Refusal
unfolding ring_on rows_on_lines
table_lines limits [] = refuse Misshapen 1 1
table_lines limits (l ∷ ls) = and_then (ring_on limits l) λ ring. rows_on_lines limits ring [] ls

unfoldable pub table_of : Limits → List ℕ → Result Table Refusal
unfolding table_lines
table_of limits t = cond (ltb limits.bytes (length t)) (refuse TooLong 0 0) (table_lines limits (lines t))
