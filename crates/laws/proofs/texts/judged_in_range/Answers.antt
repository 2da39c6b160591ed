-- Values that judging accepts (`judged-in-range`), and their sheet, written.
use Rattle.checker.proofs.Promised.{judged-in-range}
use Rattle.laws.proofs.Figures.{written-accepted}
use Rattle.laws.proofs.texts.judged_in_range.Goals as goal

pub returns-clause-range : goal.returns-clause-range
returns-clause-range c = judged-in-range

pub returns-clause-accepted : goal.returns-clause-accepted
returns-clause-accepted c = written-accepted
