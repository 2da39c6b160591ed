-- `largest_split` is D: the largest so far, with that of the rows left, is that of all.
use Rattle.std.proofs.Common.{◌≡◌, max, drop}
use Rattle.ring.specs.RuleD.{largest_split}
use Rattle.ring.specs.Sheet.{sents}
use Rattle.weight.proofs.largest_split.Given as goal

abbrev pub invariant-loop-row : goal.invariant-loop-row
invariant-loop-row g l =
    max l.largest (largest_split (sents (drop l.row-iterator.seen (g.R.Rows.rows l.row-iterator.rows.now)))) ≡ largest_split (sents (g.R.Rows.rows l.rows))
