-- Those counted so far, with those among the rows left, are all.
use Rattle.std.proofs.Common.{◌≡◌, ◌+◌, drop}
use Rattle.best.specs.Best.{splits}
use Rattle.ring.specs.Sheet.{sents}
use Rattle.crossing.proofs.crossing.count_split.Given as goal

abbrev pub invariant-loop-row : goal.invariant-loop-row
invariant-loop-row g l = l.count + splits (sents (drop l.row-iterator.seen (g.R.Rows.rows l.row-iterator.rows.now))) ≡ splits (sents (g.R.Rows.rows l.rows))
