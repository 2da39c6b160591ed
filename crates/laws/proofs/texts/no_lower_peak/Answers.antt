-- No division has a lower peak (`no-lower-peak`).
use Rattle.checker.proofs.Promised.{no-lower-peak}
use Rattle.laws.proofs.texts.no_lower_peak.Goals as goal

pub returns : goal.returns
returns c = no-lower-peak
