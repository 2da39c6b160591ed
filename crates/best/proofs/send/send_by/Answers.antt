-- Row after row by what is left of the choice.
use Rattle.std.proofs.Common.{◌≤◌, length, arith}
use Rattle.best.proofs.SendSteps.{some_left, sent_on, sends_done}
use Rattle.best.proofs.send.send_by.Goals as goal

pub next_way-way-requires-clause-some : goal.next_way-way-requires-clause-some
next_way-way-requires-clause-some g c = some_left _ _ _ _ _ _ c.row.ensures c.loop-k.invariant

pub loop-k-preserved : goal.loop-k-preserved
loop-k-preserved g c = rw c.put.ensures (sent_on _ _ _ _ _ _ c.row.ensures c.loop-k.invariant _ _ c.next_way-way.ensures)

pub returns : goal.returns
returns g c =
    let all : length (g.R.Rows.rows c.args.rows.now) ≤ c.loop-k.k = omega (arith, c.loop-k-test.false, c.count-k-end.ensures) in
    sends_done _ _ _ _ _ all c.loop-k.invariant
