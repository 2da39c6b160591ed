-- `scan` finds the largest cut: where its loops stand, the scan of what is left gives it.
use Rattle.std.proofs.Common.{arith, rules}
use Rattle.across.proofs.Places.{cut-pair}
use Rattle.across.proofs.CutSteps.{cut-start, cut-enter, cut-taken, cut_left, cut-leave, cut-done, cut-first-link, cut-second-link}
use Rattle.across.proofs.cut.scan.Goals as goal
use Rattle.across.proofs.cut.scan.Goals.{then-best-across, else-best-across}

pub loop-g-init : goal.loop-g-init
loop-g-init c = search cut-start

pub loop-h-init : goal.loop-h-init
loop-h-init c = search cut-enter

pub number-best-requires : goal.number-best-requires
number-best-requires c = cut-pair _ _ _ c.requires 1 2 (omega arith) (omega arith) c.requires.two

pub number-across-requires : goal.number-across-requires
number-across-requires c = cut-pair _ _ _ c.requires _ _ c.loop-h.invariant.low c.loop-h.invariant.order (omega arith)

pub loop-h-preserved : goal.loop-h-preserved
loop-h-preserved c =
    elim c.if-best-across.branch [
      | then-best-across w ↦ cut-taken _ _ _ _ _ _ _ _ (omega arith) c.number-across.ensures c.loop-h.invariant _ _ _ w.if-best-across.true w.best_g-is w.best_h-is w.best-is
      | else-best-across w ↦ cut_left _ _ _ _ _ _ _ _ (omega arith) c.number-across.ensures c.loop-h.invariant _ _ _ w.if-best-across.false w.best_g-is w.best_h-is w.best-is
    ]

pub loop-g-preserved : goal.loop-g-preserved
loop-g-preserved c = search (rules, cut-leave)

pub overflow_cast-result : goal.overflow_cast-result
overflow_cast-result c = search (rules, cut-first-link)

pub overflow_cast-result-2 : goal.overflow_cast-result-2
overflow_cast-result-2 c = search (rules, cut-second-link)

pub returns : goal.returns
returns c = search cut-done
