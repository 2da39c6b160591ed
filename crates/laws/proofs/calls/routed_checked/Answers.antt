-- Routing, then checking (`routed-checked`).
use Rattle.laws.proofs.Checked.{routed-checked}
use Rattle.laws.proofs.calls.routed_checked.Goals as goal

pub returns : goal.returns
returns c = routed-checked
