-- Internal: checking a sheet's text: reading it, then judging what was read.
use Rattle.std.specs.Prelude.{ℕ, ◌+◌, min, List, Result, Ok, Err, length}
use Rattle.ring.specs.Limits.{Limits}
use Rattle.ring.specs.Sheet.{Sheet}
use Rattle.reasons.specs.declared.finding.Finding.{Finding}
use Rattle.reasons.specs.AndThen.{and_then}
use Rattle.reasons.specs.Refusals.{refusal}
use Rattle.reasons.specs.declared.reason.Reason.{Reason}
use Rattle.reasons.specs.declared.reason.Reason.TheVariants.{WrongSum, WrongWay, WrongCut, WrongLink, WrongLast}
use Rattle.reasons.specs.declared.reason.Refusal.{Refusal}
use Rattle.judge.specs.Tests.{sheet_judged}
use Rattle.sheet.specs.Read.{read_sheet}

-- the line of a finding in a sheet of so many rows and nodes, by its reason and its place; 0 where it is against the sheet as a whole, and no other reason is
-- found against values that were read
unfoldable pub line_of : ℕ → ℕ → Reason → ℕ → ℕ
line_of rows nodes WrongSum k = k + 1
line_of rows nodes WrongWay k = k + 1
line_of rows nodes WrongCut k = rows + 2
line_of rows nodes WrongLink k = rows + 2 + k
line_of rows nodes WrongLast k = rows + nodes + 3
line_of rows nodes _ k = 0

-- byte 1 of a line, and byte 0 of none
abbrev pub byte_on : ℕ → ℕ
byte_on line = min line 1

-- a finding, on its line
abbrev pub on_line : Sheet → Finding → Refusal
on_line x f = let line = line_of (length x.rows) x.ring.nodes f.reason f.place in refusal f.reason line (byte_on line)

unfoldable pub judged_on : Sheet → Result Unit Finding → Result Sheet Refusal
unfolding line_of
judged_on x (Ok tt) = Ok x
judged_on x (Err f) = Err (on_line x f)

abbrev pub check_read : Limits → Result Sheet Refusal → Result Sheet Refusal
check_read limits read = and_then read λ x. judged_on x (sheet_judged limits x)

unfoldable pub check : Limits → List ℕ → Result Sheet Refusal
unfolding read_sheet judged_on sheet_judged
check limits t = check_read limits (read_sheet limits t)
