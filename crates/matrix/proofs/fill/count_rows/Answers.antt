-- The rows of the nodes before the first are counted (`Counting`), and of the first those with the nodes before the second (`CountingOn`).
use Rattle.std.proofs.Common.{rules, arith}
use Rattle.matrix.specs.Demands.{rows_by}
use Rattle.matrix.proofs.FillSteps.{counting-starts, node-counts, node-counted, not-counted, one-counted, count-fits, all-counted}
use Rattle.matrix.proofs.fill.count_rows.Goals as goal
use Rattle.matrix.proofs.fill.count_rows.Goals.{then-get-gt0, else-get-gt0}

pub loop-first-init : goal.loop-first-init
loop-first-init c = search (counting-starts, rules)

pub loop-second-init : goal.loop-second-init
loop-second-init c = search (node-counts, rules)

pub overflow_add-count : goal.overflow_add-count
overflow_add-count c = count-fits _ _ _ _ _ c.loop-second.invariant c.loop-second-test.true _ c.get.ensures (λ e. omega arith) c.nodes-nodes.ensures.few

pub loop-second-preserved : goal.loop-second-preserved
loop-second-preserved c =
    elim c.if-get-gt0.branch [
      | then-get-gt0 w ↦ rw w.count-is (one-counted _ _ _ _ _ c.loop-second.invariant c.loop-second-test.true _ c.get.ensures (λ e. omega arith))
      | else-get-gt0 w ↦ rw w.count-is (not-counted _ _ _ _ _ c.loop-second.invariant c.loop-second-test.true _ c.get.ensures (omega arith))
    ]

pub loop-first-preserved : goal.loop-first-preserved
loop-first-preserved c = search (node-counted, rules)

pub returns : goal.returns
unfolding rows_by
returns c = search (all-counted, rules)
