-- Internal: what is answered to a table's text: the ring, with the rows that stand behind it; or a refusal.
use Rattle.std.specs.Prelude.{List, Result, Ok}
use Rattle.ring.specs.declared.types.Ring.{Ring}
use Rattle.ring.specs.declared.types.Demand.{Demand}
use Rattle.reasons.specs.AndThen.{and_then}
use Rattle.table.specs.ReadTable.{Table}
use Rattle.reasons.specs.declared.reason.Refusal.{Refusal}

-- the table of a ring that was read and of the rows behind it; or the refusal
abbrev pub with_rows : List Demand → Result Ring Refusal → Result Table Refusal
with_rows rs x = and_then x λ ring. Ok (ring, rs)
