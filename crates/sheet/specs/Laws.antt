-- To believe: what holds of the texts of all sheets at once, the contract of a function that does nothing.
use Rattle.std.specs.Prelude.{◌≡◌}
use Rattle.ring.specs.Limits.{Limits}
use Rattle.ring.specs.Sheet.{Sheet}
use Rattle.sheet.specs.Range.{InRange}
use Rattle.sheet.specs.WriteSheet.{write_sheet}

-- two sheets in range that are written the same are the same: a text is the sheet of one list of values
abbrev pub SameSheet : Limits → Type 0
SameSheet limits = (x y : Sheet) → InRange limits x → InRange limits y → write_sheet x ≡ write_sheet y → x ≡ y
