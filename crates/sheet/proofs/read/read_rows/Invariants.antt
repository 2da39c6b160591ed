-- The D lines: the rows read so far stand in the columns, and reading the lines left behind them is reading from the first on (`RowsReading`).
use Rattle.std.proofs.Common.{length}
use Rattle.sheet.proofs.ReadSteps.{RowsReading}
use Rattle.sheet.proofs.read.read_rows.Given as goal

abbrev pub invariant-loop-line : goal.invariant-loop-line
invariant-loop-line l = RowsReading l.ring l.initial.lines l.rows l.lines

abbrev pub decreases-loop-line : goal.decreases-loop-line
decreases-loop-line l = length l.lines
