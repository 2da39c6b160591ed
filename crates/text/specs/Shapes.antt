-- To believe: the six lines of a table and a sheet, and a line of numbers (Rules, the grammar): shape and text.
use Rattle.std.specs.Prelude.{ℕ, List, [], ◌∷◌, length, replicate}
use Rattle.text.specs.Bytes.{letter_r, letter_d, letter_c, letter_l, letter_z}
use Rattle.text.specs.WriteLine.{write_line}
use Rattle.text.specs.declared.field.Field.{Field}
use Rattle.text.specs.declared.field.Field.TheVariants.{Letter, Number, Way}

-- R n fibres: of a SONET ring (text/RingLine has the line of either family)
abbrev pub ring_shape : List Field
ring_shape = Letter letter_r ∷ Number ∷ Number ∷ []

-- D i j amount, in a table
abbrev pub row_shape : List Field
row_shape = Letter letter_d ∷ Number ∷ Number ∷ Number ∷ []

-- D i j amount front back F-or-B, in a sheet
abbrev pub sheet_row_shape : List Field
sheet_row_shape = Letter letter_d ∷ Number ∷ Number ∷ Number ∷ Number ∷ Number ∷ Way ∷ []

-- C g h across
abbrev pub cut_shape : List Field
cut_shape = Letter letter_c ∷ Number ∷ Number ∷ Number ∷ []

-- L link split-load unsplit-load
abbrev pub link_shape : List Field
link_shape = Letter letter_l ∷ Number ∷ Number ∷ Number ∷ []

-- Z unsplit-peak size
abbrev pub last_shape : List Field
last_shape = Letter letter_z ∷ Number ∷ Number ∷ []

-- a line of n numbers and no letter, in a matrix
abbrev pub numbers : ℕ → List Field
numbers n = replicate n Number

-- ---- their texts: the letter is the first field, and its value is 0

-- D i j amount
abbrev pub row_line : ℕ → ℕ → ℕ → List ℕ
row_line i j amount = write_line row_shape (0 ∷ i ∷ j ∷ amount ∷ [])

-- D i j amount front back F-or-B
abbrev pub sheet_row_line : ℕ → ℕ → ℕ → ℕ → ℕ → ℕ → List ℕ
sheet_row_line i j amount front back w = write_line sheet_row_shape (0 ∷ i ∷ j ∷ amount ∷ front ∷ back ∷ w ∷ [])

-- C g h across
abbrev pub cut_line : ℕ → ℕ → ℕ → List ℕ
cut_line g h across = write_line cut_shape (0 ∷ g ∷ h ∷ across ∷ [])

-- L link split-load unsplit-load
abbrev pub link_line : ℕ → ℕ → ℕ → List ℕ
link_line link split unsplit = write_line link_shape (0 ∷ link ∷ split ∷ unsplit ∷ [])

-- Z unsplit-peak size
abbrev pub last_line : ℕ → ℕ → List ℕ
last_line peak size = write_line last_shape (0 ∷ peak ∷ size ∷ [])

-- a line of numbers, one for each value
abbrev pub numbers_line : List ℕ → List ℕ
numbers_line vs = write_line (numbers (length vs)) vs
