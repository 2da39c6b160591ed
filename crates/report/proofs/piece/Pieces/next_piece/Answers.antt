-- The next piece: none where the text is empty.
use Rattle.std.proofs.Common.{arith, sym, ◌∙◌}
use Rattle.std.proofs.lemmas.Bool.Decides.{nat_tests}
use Rattle.report.proofs.PieceSteps.{none-left}
use Rattle.report.proofs.piece.Pieces.next_piece.Goals as goal

pub returns-then-is_empty : goal.returns-then-is_empty
returns-then-is_empty c =
    let none = sym c.self.view_is ∙ none-left c.self.inside.rest.now (grind (arith, nat_tests)) in (none, none)
