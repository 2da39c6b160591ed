-- The lines before place k are behind the pass (`PassingLines`).
use Rattle.ring.specs.Sheet.{sents, demands}
use Rattle.text.proofs.Pieces.{PassingLines}
use Rattle.matrix.proofs.WriteSteps.{line_text, lines_text}
use Rattle.matrix.proofs.write.write_lines.Given as goal

abbrev pub invariant-loop-k : goal.invariant-loop-k
invariant-loop-k g l =
    PassingLines g.P.Pass.room g.P.Pass.after (line_text (demands (sents (g.R.Rows.rows l.rows))) l.ring.nodes) (lines_text (demands (sents (g.R.Rows.rows l.rows))) l.ring.nodes)
    l.ring.nodes 0 l.initial.buffer l.buffer l.k l.at
