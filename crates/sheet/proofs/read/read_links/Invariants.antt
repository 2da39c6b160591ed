-- The L lines: the links read so far stand in their vector, and reading the lines left behind them is reading from the first on (`LinksReading`).
use Rattle.sheet.proofs.ReadSteps.{LinksReading}
use Rattle.sheet.proofs.read.read_links.Given as goal

abbrev pub invariant-loop-line : goal.invariant-loop-line
invariant-loop-line l = LinksReading l.fn.ring l.initial.lines l.number l.lines l.line l.links.items
