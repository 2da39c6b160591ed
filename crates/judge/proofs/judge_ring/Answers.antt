-- A table's fault of a ring is what is found against it.
use Rattle.std.proofs.Common.{rules}
use Rattle.judge.proofs.Judging.{ring_first}
use Rattle.judge.proofs.judge_ring.Goals as goal

pub returns : goal.returns
returns c = ring_first _ _ c.check_ring.ensures.first _ (λ f g p. search rules) c.map_err.ensures.cases
