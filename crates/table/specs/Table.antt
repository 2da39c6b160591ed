-- To believe: a table as text (Rules, tables), what it can hold, and how many bytes always suffice.
use Rattle.std.specs.Prelude.{ℕ, ◌+◌, ◌*◌, ◌≤◌, List, ◌++◌, length}
use Rattle.std.specs.List.{flat_map}
use Rattle.ring.specs.Limits.{Limits}
use Rattle.ring.specs.declared.types.Ring.{Ring}
use Rattle.ring.specs.WithinLimits.{WithinLimits}
use Rattle.ring.specs.declared.types.Demand.{Demand}
use Rattle.text.specs.Shapes.{row_line}
use Rattle.text.specs.RingLine.{ring_line}

-- D lines
unfoldable pub write_rows : List Demand → List ℕ
write_rows rs = flat_map (λ (r : Demand). row_line r.first r.second r.amount) rs

-- the R line, then D lines
unfoldable pub write_table : Ring → List Demand → List ℕ
unfolding write_rows
write_table ring rs = ring_line ring ++ write_rows rs

-- what a table can hold, within limits
pub record InRange (limits : Limits) (ring : Ring) (rs : List Demand) : Type 0 where
  pub within : WithinLimits limits ring rs
  pub short : length (write_table ring rs) ≤ limits.bytes

-- no table is longer, within limits of at most 2 digits for a node and 4 for an amount: each field has the byte behind it, so the R line has at most 9 bytes
-- and a D line 13
abbrev pub table_room : Limits → ℕ
table_room limits = 9 + 13 * limits.rows
