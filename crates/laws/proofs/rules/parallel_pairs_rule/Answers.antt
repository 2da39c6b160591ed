-- Rule C (`Move`, `SameNodes`, `Order`, `Untangle`).
use Rattle.ring.proofs.Order.{rule-C-order, rule-C-only}
use Rattle.laws.proofs.OfTables.{move-is, move-keeps, earlier-outer, rows-untangled, untangled-divides, untangled-peak}
use Rattle.laws.proofs.rules.parallel_pairs_rule.Goals as goal

pub returns-clause-moves : goal.returns-clause-moves
returns-clause-moves c = move-is

pub returns-clause-keeps : goal.returns-clause-keeps
returns-clause-keeps c = move-keeps

pub returns-clause-earlier : goal.returns-clause-earlier
returns-clause-earlier c = earlier-outer

pub returns-clause-order : goal.returns-clause-order
returns-clause-order c = rule-C-order

pub returns-clause-only : goal.returns-clause-only
returns-clause-only c = rule-C-only

pub returns-clause-untangled : goal.returns-clause-untangled
returns-clause-untangled c = rows-untangled

pub returns-clause-demands : goal.returns-clause-demands
returns-clause-demands c = untangled-divides

pub returns-clause-peak : goal.returns-clause-peak
returns-clause-peak c = untangled-peak
