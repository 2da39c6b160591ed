-- The numbers before k are put (`Putting`).
use Rattle.matrix.proofs.NumbersSteps.{entry-fits}
use Rattle.matrix.proofs.square.entries_of.Goals as goal

pub overflow_cast-entries : goal.overflow_cast-entries
overflow_cast-entries c = entry-fits _ _ c.loop-k-test.true (rw c.deref-number-items.ensures.0 c.requires)
