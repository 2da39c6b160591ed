-- True sheets in range (`true-accepted`).
use Rattle.checker.proofs.Promised.{true-accepted}
use Rattle.laws.proofs.texts.true_sheet_accepted.Goals as goal

pub returns : goal.returns
returns c = true-accepted
