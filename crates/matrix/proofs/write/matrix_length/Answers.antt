-- A matrix of few lines can be measured.
use Rattle.matrix.proofs.WriteSteps.{matrix-placed}
use Rattle.matrix.proofs.write.matrix_length.Goals as goal

pub write_lines-requires-clause-has_room : goal.write_lines-requires-clause-has_room
write_lines-requires-clause-has_room g c = matrix-placed _ _ c.requires.few_nodes
