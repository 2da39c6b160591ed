use Rattle.std.proofs.Common.{refl}
use Rattle.ring.specs.Lists.{listed}
use Rattle.rows.proofs.columns.Columns.clear.Goals as goal

pub returns : goal.returns
unfolding listed
returns c = refl
