-- `note_ways` notes the ways of the rows passed.
use Rattle.turns.proofs.KnownSteps.{Noting}
use Rattle.turns.proofs.known.note_ways.Given as goal

abbrev pub invariant-loop-k : goal.invariant-loop-k
invariant-loop-k g l = Noting (g.R.Rows.rows l.rows) l.ways l.k
