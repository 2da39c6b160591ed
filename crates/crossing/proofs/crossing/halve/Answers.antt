-- A row more is halved.
use Rattle.std.proofs.Common.{◌≤◌, length, arith}
use Rattle.crossing.proofs.Steps.{halve_turn, halve_done}
use Rattle.crossing.proofs.crossing.halve.Goals as goal

pub loop-k-preserved : goal.loop-k-preserved
loop-k-preserved g c = rw c.put.ensures (search halve_turn)

pub returns : goal.returns
returns g c =
    let all : length (g.R.Rows.rows c.args.rows.now) ≤ c.loop-k.k = omega (arith, c.loop-k-test.false, c.count-k-end.ensures) in
    search halve_done
