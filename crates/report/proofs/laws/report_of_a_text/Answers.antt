-- The report of a text, and that each piece is counted once (`CheckedLaws`), that it is short (`Short`), and of accepted sheets (`SheetPieces`).
use Rattle.report.proofs.CheckedLaws.{one-outcome, one-report, each-once}
use Rattle.report.proofs.Short.{short-report}
use Rattle.report.proofs.SheetPieces.{all-accepted}
use Rattle.report.proofs.laws.report_of_a_text.Goals as goal

pub returns-clause-outcome : goal.returns-clause-outcome
returns-clause-outcome c = one-outcome

pub returns-clause-one : goal.returns-clause-one
returns-clause-one c = one-report

pub returns-clause-once : goal.returns-clause-once
returns-clause-once c = each-once

pub returns-clause-short : goal.returns-clause-short
returns-clause-short c = short-report

pub returns-clause-counted : goal.returns-clause-counted
returns-clause-counted c = all-accepted
