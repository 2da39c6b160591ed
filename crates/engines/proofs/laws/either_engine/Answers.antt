-- Either engine (`Engines`).
use Rattle.engines.proofs.Engines.{sends-by, split-peak, one-split, plan-true-by, plan-demands-by, as-before}
use Rattle.engines.proofs.laws.either_engine.Goals as goal

pub returns-clause-sends : goal.returns-clause-sends
returns-clause-sends c = sends-by

pub returns-clause-peak : goal.returns-clause-peak
returns-clause-peak c = split-peak

pub returns-clause-one_split : goal.returns-clause-one_split
returns-clause-one_split c = one-split

pub returns-clause-plan : goal.returns-clause-plan
returns-clause-plan c = plan-true-by

pub returns-clause-demands : goal.returns-clause-demands
returns-clause-demands c = plan-demands-by

pub returns-clause-as_before : goal.returns-clause-as_before
returns-clause-as_before c = as-before
