-- Whether all rows cross, then routing by the best choice (`crossed-routed`).
use Rattle.laws.proofs.Checked.{crossed-routed}
use Rattle.laws.proofs.calls.crossed_routed.Goals as goal

pub returns : goal.returns
returns c = crossed-routed
