-- The lines left are none, or a first and those behind it.
use Rattle.std.proofs.Common.{arith, sym, ◌∙◌}
use Rattle.std.proofs.lemmas.Bool.Decides.{nat_tests}
use Rattle.lines.proofs.LineSteps.{no_lines, line_first}
use Rattle.lines.proofs.lines.Lines.next_line.Goals as goal

pub returns-then-is_empty : goal.returns-then-is_empty
returns-then-is_empty c =
    let none = sym c.self.view_is ∙ no_lines c.self.inside.rest.now (grind (arith, nat_tests)) in (none, none)

pub returns : goal.returns
returns c = sym c.self.view_is ∙ line_first c.self.inside.rest.now _ (grind (arith, nat_tests)) c.line_end-end.ensures
