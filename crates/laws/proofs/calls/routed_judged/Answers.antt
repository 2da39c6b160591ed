-- Routing, then judging (`routed-judged`).
use Rattle.laws.proofs.Checked.{routed-judged}
use Rattle.laws.proofs.calls.routed_judged.Goals as goal

pub returns : goal.returns
returns c = routed-judged
