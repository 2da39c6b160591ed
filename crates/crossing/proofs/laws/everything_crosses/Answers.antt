-- Where everything crosses (`Crossed`, `ThreeRows`), and that there is one answer (`OneAnswer`).
use Rattle.crossing.proofs.Crossed.{halved-where-all-cross, split-are-those-with-amounts, best-within-bound}
use Rattle.crossing.proofs.ThreeRows.{three-cross, not-of-rule-D}
use Rattle.crossing.proofs.OneAnswer.{one-answer}
use Rattle.crossing.proofs.laws.everything_crosses.Goals as goal

pub returns-clause-halved : goal.returns-clause-halved
returns-clause-halved c = halved-where-all-cross

pub returns-clause-split : goal.returns-clause-split
returns-clause-split c = split-are-those-with-amounts

pub returns-clause-bound : goal.returns-clause-bound
returns-clause-bound c = best-within-bound

pub returns-clause-rule_d : goal.returns-clause-rule_d
returns-clause-rule_d c = not-of-rule-D

pub returns-clause-three : goal.returns-clause-three
returns-clause-three c = three-cross

pub returns-clause-one : goal.returns-clause-one
returns-clause-one c = one-answer
