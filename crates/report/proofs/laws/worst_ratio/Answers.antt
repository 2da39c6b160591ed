-- The worst ratio (`WorstLaws`).
use Rattle.report.proofs.WorstLaws.{worst-is-so}
use Rattle.report.proofs.laws.worst_ratio.Goals as goal

pub returns : goal.returns
returns c = worst-is-so
