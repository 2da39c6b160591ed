-- `put_ways` puts the ways of rows: those of the rows passed.
use Rattle.std.proofs.Common.{drop}
use Rattle.ringkit.proofs.TurnCalls.{Passing}
use Rattle.ringkit.proofs.turning.put_ways.Given as goal

abbrev pub invariant-loop-place : goal.invariant-loop-place
invariant-loop-place g l =
    Passing (g.R.Rows.rows l.rows) l.initial.ways l.ways (drop l.place-iterator.iter.seen (g.R.Rows.rows l.place-iterator.iter.rows.now)) l.place-iterator.count
