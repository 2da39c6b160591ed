-- The law of `turns`.
use Rattle.turns.proofs.CasesHold.{cases-hold}
use Rattle.laws.proofs.texts.turned_cases_hold.Goals as goal

pub returns : goal.returns
returns c = cases-hold
