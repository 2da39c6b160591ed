-- Fronts and backs lead from node to node (`Round`).
use Rattle.ring.proofs.Round.{front-leads, back-leads}
use Rattle.laws.proofs.rules.fronts_and_backs.Goals as goal

pub returns-clause-front : goal.returns-clause-front
returns-clause-front c = front-leads

pub returns-clause-back : goal.returns-clause-back
returns-clause-back c = back-leads
