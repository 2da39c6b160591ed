-- To believe: which byte goes with a line that is due: where it is missing, and where it is there and faulty.
use Rattle.std.specs.Prelude.{ℕ, ◌+◌, List}
use Rattle.text.specs.FirstFault.{FirstFault}
use Rattle.text.specs.declared.field.Field.{Field}
use Rattle.ring.specs.Limits.{Limits}
use Rattle.lines.specs.Lines.{lines, LineIs}

-- where a line is due: 1 where it is missing; else the byte at which its first fault is, by what a fault is there
pub data DueByte (t : List ℕ) (line : ℕ) (FaultAt : List ℕ → ℕ → Type 0) : ℕ → Type 0 where
  line_missing : ((l : List ℕ) → LineIs (lines t) line l → ⊥) → DueByte t line FaultAt 1
  line_faulty : {l : List ℕ} {p : ℕ} → LineIs (lines t) line l → FaultAt l p → DueByte t line FaultAt (p + 1)

-- where a line of this shape is due it is the first byte at which no line of the shape goes on like this
abbrev pub ShapeByte : Limits → List ℕ → List Field → ℕ → ℕ → Type 0
ShapeByte limits t shape line = DueByte t line (FirstFault limits.digits shape)
