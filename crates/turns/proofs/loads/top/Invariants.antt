-- `top` keeps the largest load of the links passed.
use Rattle.std.proofs.Common.{◌≡◌, ◌+◌, suc}
use Rattle.weight.specs.LinkSteps.{link_at}
use Rattle.turns.specs.Choosing.{span_top}
use Rattle.turns.proofs.loads.top.Given as goal

abbrev pub invariant-loop-load : goal.invariant-loop-load
invariant-loop-load l = l.most ≡ span_top (link_at l.loads) (suc l.p) (l.p + l.load-index)
