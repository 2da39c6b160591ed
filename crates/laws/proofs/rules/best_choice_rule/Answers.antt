-- The best choice (`BestWays`, `BestTrue`).
use Rattle.best.proofs.BestWays.{best-unique}
use Rattle.laws.proofs.OfTables.{best-there, rule-D-one, few-rows}
use Rattle.laws.proofs.rules.best_choice_rule.Goals as goal

pub returns-clause-there : goal.returns-clause-there
returns-clause-there c = best-there

pub returns-clause-only : goal.returns-clause-only
returns-clause-only c = best-unique

pub returns-clause-chooses : goal.returns-clause-chooses
returns-clause-chooses c = rule-D-one

pub returns-clause-few : goal.returns-clause-few
returns-clause-few c = few-rows
