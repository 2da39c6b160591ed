-- Lines of a shape (`one-line`, `faulty-is`).
use Rattle.text.proofs.LineLaws.{one-line, faulty-is}
use Rattle.laws.proofs.texts.lines_of_a_shape.Goals as goal

pub returns-clause-one : goal.returns-clause-one
returns-clause-one c = λ limits. one-line limits.digits limits.countable

pub returns-clause-faulty : goal.returns-clause-faulty
returns-clause-faulty c = λ limits. faulty-is limits.digits limits.countable
