-- To believe: how numbers are spelled, what a line of a shape says, which texts are a sheet or a matrix, and how reasons are numbered: each the contract of a
-- function that does nothing.
use Rattle.std.specs.Prelude.{ℕ, ◌≤◌, ◌<◌, List, ◌↔◌, ◌≡◌}
use Rattle.ring.specs.Limits.{Limits, desk}
use Rattle.text.specs.Number.{limit, digits, Spelling}
use Rattle.text.specs.declared.field.Field.{Field}
use Rattle.text.specs.WriteLine.{write_line, FitsShape}
use Rattle.text.specs.FirstFault.{FirstFault}
use Rattle.text.specs.RingLine.{RingLineIs, RingFault}
use Rattle.ring.specs.declared.types.Ring.{Ring}
use Rattle.reasons.specs.Reasons.{number_of}
use Rattle.reasons.specs.declared.reason.Reason.{Reason}
use Rattle.matrix.specs.Says as matrix
use Rattle.sheet.specs.Says as sheet
use Rattle.ringkit.specs.Texts.{SomeForm}
use Rattle.matrix_calls.specs.Matrices.{SomeMatrix}

-- within any limits bytes spell a number exactly where it is below the least that has too many digits, and they are its digits: the desk's 1 to 8 digits with
-- no leading zero but 0 itself leave each number one spelling
abbrev pub SpellingIs : Type 0
SpellingIs = (limits : Limits) (number : ℕ) (bytes : List ℕ) → Spelling limits.digits number bytes ↔ ((number < limit limits.digits) × (bytes ≡ digits number))

-- two lines of one shape that are written the same say the same values
abbrev pub OneLine : Type 0
OneLine = (limits : Limits) (shape : List Field) (us vs : List ℕ) → FitsShape limits.digits shape us → FitsShape limits.digits shape vs → write_line shape us ≡ write_line shape vs → us ≡ vs

-- a text has a first faulty byte exactly where it is no line of the shape
abbrev pub FaultyIs : Type 0
FaultyIs =
    (limits : Limits) (shape : List Field) (s : List ℕ) →
    ((p : ℕ) × FirstFault limits.digits shape s p) ↔ ((vs : List ℕ) → s ≡ write_line shape vs → FitsShape limits.digits shape vs → ⊥)

-- a text is the R line of one ring
abbrev pub OneRingLine : Type 0
OneRingLine = (limits : Limits) (s : List ℕ) (p q : Ring) → RingLineIs limits.marks limits.digits s p → RingLineIs limits.marks limits.digits s q → p ≡ q

-- and has a first faulty byte exactly where it is the R line of none
abbrev pub RingFaultyIs : Type 0
RingFaultyIs =
    (limits : Limits) (s : List ℕ) →
    ((p : ℕ) × RingFault limits.marks limits.digits s p) ↔ ((ring : Ring) → RingLineIs limits.marks limits.digits s ring → ⊥)

-- a text is well-formed exactly where it is a sheet of values in range, true or not
abbrev pub WellFormedIs : Type 0
WellFormedIs = (t : List ℕ) → sheet.WellFormed desk t ↔ SomeForm t

-- a text is an accepted matrix exactly where it is n lines of n numbers in range, symmetric, with 0 on the diagonal, that make at most 1,024 rows
abbrev pub AcceptedMatrixIs : Type 0
AcceptedMatrixIs = (t : List ℕ) → matrix.Accepted desk t ↔ SomeMatrix t

-- no two reasons have one number
abbrev pub ReasonsApart : Type 0
ReasonsApart = (a b : Reason) → number_of a ≡ number_of b → a ≡ b

-- and none has 0, by which C is told of success
abbrev pub ReasonsFromOne : Type 0
ReasonsFromOne = (a : Reason) → 1 ≤ number_of a
