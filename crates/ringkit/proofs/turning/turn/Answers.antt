-- Turning: what reading answers is what is turned, and gives the answer each way out.
use Rattle.std.proofs.lemmas.Result.{err_from_is_err_and}
use Rattle.table.proofs.Told.{read-range}
use Rattle.ringkit.proofs.RouteSteps.{router-takes}
use Rattle.ringkit.proofs.TurnCalls.{turn_refused, turn_fills, turned_few}
use Rattle.ringkit.proofs.turning.turn.Goals as goal

pub returns-in_err-ring : goal.returns-in_err-ring
returns-in_err-ring c =
    let p = err_from_is_err_and c.from_residual.result c.from_residual.ensures.1 in
    rw (p.1, p.2) (turn_refused c.args.table.now _ _ c.read_table.ensures.value _ _ c.in_err-ring.was)

pub turn_rows-turned-requires-clause-two : goal.turn_rows-turned-requires-clause-two
turn_rows-turned-requires-clause-two c = (read-range c.args.table.now _ _ c.read_table.ensures.value _ c.in_ok-ring.was).within.few

pub turn_rows-turned-requires-clause-fit : goal.turn_rows-turned-requires-clause-fit
turn_rows-turned-requires-clause-fit c = router-takes _ _ (read-range c.args.table.now _ _ c.read_table.ensures.value _ c.in_ok-ring.was)

pub put_ways-requires : goal.put_ways-requires
put_ways-requires c =
    turned_few _ _ c.turn_rows-turned.ensures.demands (read-range c.args.table.now _ _ c.read_table.ensures.value _ c.in_ok-ring.was).within.count

pub returns : goal.returns
returns c =
    turn_fills c.args.table.now _ _ c.read_table.ensures.value _ c.in_ok-ring.was _ _ _ _ _ c.turn_rows-turned.ensures.demands c.turn_rows-turned.ensures.rows c.turn_rows-turned.ensures.figures c.count.ensures.is c.put_ways.ensures
