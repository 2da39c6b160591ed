-- It ends with the rows.
use Rattle.std.proofs.Common.{length}
use Rattle.best.proofs.tries.+try_all.Given as goal

abbrev pub decreases-try_all : goal.decreases-try_all
decreases-try_all l = length l.split.now
