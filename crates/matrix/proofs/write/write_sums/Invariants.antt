-- The entries before node j are written, and what is left, written from `next` on, makes the line
-- whole.
use Rattle.ring.specs.Sheet.{sents, demands}
use Rattle.matrix.specs.Demands.{sum_of}
use Rattle.matrix.proofs.WriteSteps.{Entering}
use Rattle.matrix.proofs.write.write_sums.Given as goal

abbrev pub invariant-loop-j : goal.invariant-loop-j
invariant-loop-j g l =
    Entering (sum_of (demands (sents (g.R.Rows.rows l.rows))) l.i) l.ring.nodes
    g.P.Pass.room g.P.Pass.after l.initial.buffer l.at l.j l.next l.buffer
