-- Nothing of the rows read so far is sent; and the lines that are left behind them (`Reading`).
use Rattle.std.proofs.Common.{◌≡◌, length, map}
use Rattle.ring.specs.Sheet.{sents, demands}
use Rattle.rows.specs.Columns.{unsent}
use Rattle.table.proofs.ReadSteps.{Reading}
use Rattle.table.proofs.read.read_lines.Given as goal

abbrev pub invariant-loop-line : goal.invariant-loop-line
invariant-loop-line l = (l.rows ≡ map unsent (demands (sents l.rows))) × Reading l.text l.ring (demands (sents l.rows)) l.lines

abbrev pub decreases-loop-line : goal.decreases-loop-line
decreases-loop-line l = length l.lines
