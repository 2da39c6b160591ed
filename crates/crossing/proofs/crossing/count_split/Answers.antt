-- Those counted so far, with those among the rows left, are all.
use Rattle.std.proofs.Common.{rules}
use Rattle.crossing.proofs.Steps.{count_fits, one_more, passed_over, counted}
use Rattle.crossing.proofs.crossing.count_split.Goals as goal

pub overflow_add-count : goal.overflow_add-count
overflow_add-count g c = count_fits _ _ _ c.requires c.loop-row.invariant

pub loop-row-preserved-then-is_split : goal.loop-row-preserved-then-is_split
loop-row-preserved-then-is_split g c = one_more _ _ _ _ _ c.in-Some.ensures.steps (search rules) c.loop-row.invariant

pub loop-row-preserved : goal.loop-row-preserved
loop-row-preserved g c = passed_over _ _ _ _ _ c.in-Some.ensures.steps (search rules) c.loop-row.invariant

pub returns : goal.returns
returns g c = counted _ _ _ c.in-None.ensures.steps.0 c.loop-row.invariant
