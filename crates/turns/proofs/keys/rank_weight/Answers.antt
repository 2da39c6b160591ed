-- A weight is shifted by fewer than 64 places, since the load is one of theirs.
use Rattle.turns.proofs.KeySteps.{count_fits}
use Rattle.turns.proofs.keys.rank_weight.Goals as goal

pub overflow_shl-result : goal.overflow_shl-result
overflow_shl-result c = search count_fits
