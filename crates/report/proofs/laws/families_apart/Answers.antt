-- The totals of a family (`TotalsLaws`).
use Rattle.report.proofs.TotalsLaws.{families-apart}
use Rattle.report.proofs.laws.families_apart.Goals as goal

pub returns : goal.returns
returns c = families-apart
