-- `send_whole` is rule D: the ways so far, and those that the rule gives to what is left, are the ways of all.
use Rattle.std.proofs.Common.{◌≤◌, length, arith}
use Rattle.router.proofs.WaySteps.{turn-fits, ways-turn, ways-done}
use Rattle.router.proofs.ways.send_whole.Goals as goal

pub next_way-way-requires : goal.next_way-way-requires
next_way-way-requires g c =
    let f = turn-fits _ _ c.requires _ c.largest_split-largest.ensures _ _ _ _ c.row.ensures c.loop-k.invariant in
    record { largest_small = f.0; added_small = f.1; taken_small = f.2; halves_small = f.3 }

pub loop-k-preserved : goal.loop-k-preserved
loop-k-preserved g c = rw c.put.ensures (search ways-turn)

pub returns : goal.returns
returns g c =
    let all : length (g.R.Rows.rows c.args.rows.now) ≤ c.loop-k.k = omega (arith, c.loop-k-test.false, c.count-k-end.ensures) in
    search ways-done
