-- The pieces of a text (`PieceLaws`).
use Rattle.report.proofs.PieceLaws.{pieces-are-so}
use Rattle.report.proofs.laws.pieces_of_a_text.Goals as goal

pub returns : goal.returns
returns c = pieces-are-so
