-- The pairs of the nodes before the first are passed (`Filling`), and of the first those with the nodes before the second (`Crossing`).
use Rattle.std.proofs.Common.{rules, arith}
use Rattle.matrix.proofs.FillSteps.{filling-starts, node-begins, node-over, no-demand, has-room, adds-row, filled}
use Rattle.matrix.proofs.fill.fill.Goals as goal
use Rattle.matrix.proofs.fill.fill.Goals.{then-amount-gt0, else-amount-gt0}

pub loop-first-init : goal.loop-first-init
loop-first-init c = search (filling-starts, rules)

pub loop-second-init : goal.loop-second-init
loop-second-init c = search (node-begins, rules)

pub push_unsent-requires : goal.push_unsent-requires
push_unsent-requires c = has-room _ _ _ _ _ c.loop-second.invariant c.loop-second-test.true _ c.get-amount.ensures (λ e. omega arith) (rw c.nodes-nodes.ensures.is c.requires.few)

pub loop-second-preserved : goal.loop-second-preserved
loop-second-preserved c =
    elim c.if-amount-gt0.branch [
      | then-amount-gt0 w ↦ rw w.rows-is (adds-row _ _ _ _ _ c.loop-second.invariant c.loop-second-test.true _ c.get-amount.ensures (λ e. omega arith) _ w.push_unsent.ensures)
      | else-amount-gt0 w ↦ rw w.rows-is (no-demand _ _ _ _ _ c.loop-second.invariant c.loop-second-test.true _ c.get-amount.ensures (omega arith))
    ]

pub loop-first-preserved : goal.loop-first-preserved
loop-first-preserved c = search (node-over, rules)

pub returns : goal.returns
returns c = search (filled, rules)
