-- Routing, then a report (`routed-counted`).
use Rattle.laws.proofs.Checked.{routed-counted}
use Rattle.laws.proofs.calls.routed_counted.Goals as goal

pub returns : goal.returns
returns c = routed-counted
