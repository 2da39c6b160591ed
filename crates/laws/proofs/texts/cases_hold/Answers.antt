-- The listed cases, computed (`cases-hold`).
use Rattle.checker.proofs.CasesHold.{cases-hold}
use Rattle.laws.proofs.texts.cases_hold.Goals as goal

pub returns : goal.returns
returns c = cases-hold
