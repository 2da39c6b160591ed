-- The plan of an accepted table (`plan-accepted`).
use Rattle.checker.proofs.Promised.{plan-accepted}
use Rattle.laws.proofs.texts.plan_accepted.Goals as goal

pub returns : goal.returns
returns c = plan-accepted
