-- The listed cases, in the words of the calls (`Promised`).
use Rattle.laws.proofs.Promised.{cases-promised}
use Rattle.laws.proofs.texts.cases_as_promised.Goals as goal

pub returns : goal.returns
returns c = cases-promised
