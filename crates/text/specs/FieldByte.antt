-- To believe: the byte of a line where a field starts, counted from 1: one more than the length of what is written before it.
use Rattle.std.specs.Prelude.{ℕ, ◌+◌, List, [], ◌∷◌, length, take}
use Rattle.ring.specs.declared.types.Demand.{Demand}
use Rattle.text.specs.Shapes.{row_shape, sheet_row_shape}
use Rattle.text.specs.WriteLine.{write_line}
use Rattle.text.specs.declared.field.Field.{Field}

-- k fields stand before the field; each is written with the byte behind it
unfoldable pub field_byte : List Field → List ℕ → ℕ → ℕ
field_byte shape vs k = length (write_line (take k shape) vs) + 1

-- in the line D i j amount
abbrev pub row_byte : Demand → ℕ → ℕ
row_byte r k = field_byte row_shape (0 ∷ r.first ∷ r.second ∷ r.amount ∷ []) k

-- in the line D i j amount front back F-or-B; what stands there behind the amount moves none of the fields before it (`sheet-row-byte`)
abbrev pub sheet_row_byte : Demand → ℕ → ℕ → ℕ → ℕ → ℕ
sheet_row_byte r front back w k = field_byte sheet_row_shape (0 ∷ r.first ∷ r.second ∷ r.amount ∷ front ∷ back ∷ w ∷ []) k
