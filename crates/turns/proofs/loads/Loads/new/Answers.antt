-- No links have no figures.
use Rattle.std.proofs.Common.{refl}
use Rattle.turns.proofs.LoadsSteps.{no_links}
use Rattle.turns.proofs.loads.Loads.new.Goals as goal

pub invariant_of-result : goal.invariant_of-result
invariant_of-result c = no_links _ refl refl refl
