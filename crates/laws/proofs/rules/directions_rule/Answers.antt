-- Rule D (`Directions`, `OurPlan`, `OneResult`).
use Rattle.ring.proofs.Directions.{largest-split}
use Rattle.laws.proofs.OfTables.{split-rise, rows-directed, directions-one, directed-peak}
use Rattle.laws.proofs.rules.directions_rule.Goals as goal

pub returns-clause-rise : goal.returns-clause-rise
returns-clause-rise c = split-rise

pub returns-clause-largest : goal.returns-clause-largest
returns-clause-largest c = largest-split

pub returns-clause-directed : goal.returns-clause-directed
returns-clause-directed c = rows-directed

pub returns-clause-only : goal.returns-clause-only
returns-clause-only c = directions-one

pub returns-clause-peak : goal.returns-clause-peak
returns-clause-peak c = directed-peak
