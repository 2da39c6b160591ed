-- The split rows found, with those of the rows left, are those of all.
use Rattle.std.proofs.Common.{◌≡◌, ◌++◌, drop}
use Rattle.ring.specs.Sheet.{sents}
use Rattle.best.specs.Choices.{split_rows}
use Rattle.best.proofs.send.split_rows.Given as goal

abbrev pub invariant-loop-row : goal.invariant-loop-row
invariant-loop-row g l =
    l.split.items ++ split_rows (sents (drop l.row-iterator.seen (g.R.Rows.rows l.row-iterator.rows.now))) ≡ split_rows (sents (g.R.Rows.rows l.rows))
