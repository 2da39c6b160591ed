-- The lines before place k are behind the pass (`PassingLines`).
use Rattle.std.proofs.Common.{rules, arith}
use Rattle.text.proofs.Pieces.{passing-starts, line-room}
use Rattle.matrix.proofs.WriteSteps.{matrix-pieces}
use Rattle.matrix.proofs.write.write_lines.Goals as goal

pub loop-k-init : goal.loop-k-init
loop-k-init g c = passing-starts g.met.P.Pass.laws _ _ (matrix-pieces _ _ c.requires.few_nodes) _ _ _ (omega (arith, c.requires.has_room))

pub write_sums-at-requires-clause-has_room : goal.write_sums-at-requires-clause-has_room
write_sums-at-requires-clause-has_room g c = line-room g.met.P.Pass.laws _ _ _ _ _ _ _ _ c.loop-k.invariant (search rules)
