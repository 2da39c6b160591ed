-- Writing a table: its rows line by line; and its R line, with its rows behind that.
use Prim.Native.Nat.{ℕ, ◌+◌, ◌*◌, ◌≤◌}
use mathlib.Core.List.{List, [], ◌∷◌, ◌++◌}
use mathlib.Core.Path.{◌≡◌}
use native.Mathlib.Omega.{arith}
use lib.ListN.{length, length-append}
use Rattle.ring.specs.Limits.{desk}
use Rattle.ring.specs.declared.types.Ring.{Ring}
use Rattle.ring.specs.declared.types.Demand.{Demand}
use Rattle.ring.specs.declared.types.Routed.{Routed}
use Rattle.ring.specs.Sheet.{sents, demands}
use Rattle.text.specs.Shapes.{row_shape, row_line}
use Rattle.text.specs.RingLine.{ring_line}
use Rattle.text.proofs.RingLaws.{ring-line-short}
use Rattle.text.specs.Pass.{PassLaws}
use Rattle.text.specs.Written.{Passed}
use Rattle.text.proofs.Lengths.{line-short}
use Rattle.text.proofs.Writing.{written_behind, room-kept}
use Rattle.table.specs.Table.{write_rows, write_table}

abbrev pub demand_line : Demand → List ℕ
demand_line r = row_line r.first r.second r.amount

pub no-rows : (rows : List Routed) → rows ≡ [] → write_rows (demands (sents rows)) ≡ []
unfolding write_rows
no-rows rows e = rw e

-- the line of the first row, and those of the rows behind it
pub next-row : (rows rest : List Routed) (r : Routed) → rows ≡ r ∷ rest → write_rows (demands (sents rows)) ≡ demand_line r.sent.demand ++ write_rows (demands (sents rest))
unfolding write_rows
next-row rows rest r e = rw e

-- each line has at most 1,000 bytes
rows-short : (rows : List Demand) → length (write_rows rows) ≤ 1000 * length rows
unfolding write_rows
rows-short [] = omega arith
rows-short (r ∷ rows) = omega (arith, length-append (demand_line r) (write_rows rows), line-short row_shape (0 ∷ r.first ∷ r.second ∷ r.amount ∷ []), rows-short rows)

-- so few rows can be measured
pub table-measurable : (ring : Ring) (rows : List Demand) → length rows ≤ desk.rows → length (write_table ring rows) ≤ 18446744073709551615
unfolding write_table
table-measurable ring rows few =
    omega (arith, length-append (ring_line ring) (write_rows rows), ring-line-short ring, rows-short rows)

module _ {room : List ℕ → ℕ} {after : List ℕ → ℕ → List ℕ → List ℕ} (pass : PassLaws room after) (old : List ℕ) where
  module _ (ring : Ring) (rows : List Demand) (fits : length (write_table ring rows) ≤ room old) where
    whole : length (write_table ring rows) ≡ length (ring_line ring) + length (write_rows rows)
    unfolding write_table
    whole = length-append (ring_line ring) (write_rows rows)

    pub ring-placed : 0 + length (ring_line ring) ≤ room old
    ring-placed = omega (arith, fits, whole)

    module _ (buffer : List ℕ) (next : ℕ) (passed : Passed after old 0 (ring_line ring) buffer next) where
      pub rows-placed : next + length (write_rows rows) ≤ room buffer
      rows-placed = omega (arith, fits, whole, passed.place, room-kept pass old buffer (ring_line ring) 0 next passed)

      pub table-passed : (new : List ℕ) (q : ℕ) → Passed after buffer next (write_rows rows) new q → Passed after old 0 (write_table ring rows) new q
      unfolding write_table
      table-passed new q w = written_behind pass _ _ _ _ _ _ _ _ passed w
