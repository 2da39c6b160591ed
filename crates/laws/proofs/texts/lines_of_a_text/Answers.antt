-- The lines of a text (`lines-are`).
use Rattle.lines.proofs.LinesAre.{lines-are}
use Rattle.laws.proofs.texts.lines_of_a_text.Goals as goal

pub returns : goal.returns
returns c = lines-are
