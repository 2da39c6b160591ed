-- A report over many plans: each clause by one law of the line that is due (`ReportCalls`).
use Rattle.report_calls.proofs.ReportCalls.{report-promise, report-only, report-fits, always-reported, all-counted}
use Rattle.report_calls.proofs.ringkit_report.Goals as goal

pub returns-clause-promise : goal.returns-clause-promise
returns-clause-promise c = report-promise _ _ _ _ c.make_report.ensures

pub returns-clause-only : goal.returns-clause-only
returns-clause-only c = report-only _ _ _ _ c.make_report.ensures

pub returns-clause-counted : goal.returns-clause-counted
returns-clause-counted c = λ plans joined each. all-counted _ plans joined each _ _ _ (report-promise _ _ _ _ c.make_report.ensures)

pub returns-clause-fits : goal.returns-clause-fits
returns-clause-fits c = report-fits _ _ _ _ c.make_report.ensures

pub returns-clause-room : goal.returns-clause-room
returns-clause-room c = λ within room. always-reported _ _ _ _ c.make_report.ensures within room
