-- The least of five rules of a table: what reading answers is what is routed, and gives the answer each way out.
use Rattle.std.proofs.lemmas.Result.{err_from_is_err_and}
use Rattle.table.proofs.Told.{read-range}
use Rattle.ringkit.proofs.RouteSteps.{router-takes}
use Rattle.ringkit.proofs.TurnCalls.{turned_few}
use Rattle.ringkit.proofs.LeastCalls.{least-refused, least-given}
use Rattle.ringkit.proofs.least_peak.find_least.Goals as goal

pub returns-in_err-ring : goal.returns-in_err-ring
returns-in_err-ring c =
    let p = err_from_is_err_and c.from_residual.result c.from_residual.ensures.1 in
    rw (p.1, p.2) (least-refused c.args.table.now _ _ c.read_table.ensures.value _ _ c.in_err-ring.was)

pub route_least-least-requires-clause-two : goal.route_least-least-requires-clause-two
route_least-least-requires-clause-two c = (read-range c.args.table.now _ _ c.read_table.ensures.value _ c.in_ok-ring.was).within.few

pub route_least-least-requires-clause-fit : goal.route_least-least-requires-clause-fit
route_least-least-requires-clause-fit c = router-takes _ _ (read-range c.args.table.now _ _ c.read_table.ensures.value _ c.in_ok-ring.was)

pub put_ways-requires : goal.put_ways-requires
put_ways-requires c =
    turned_few _ _ c.route_least-least.ensures.demands (read-range c.args.table.now _ _ c.read_table.ensures.value _ c.in_ok-ring.was).within.count

pub returns : goal.returns
returns c = least-given c.args.table.now _ _ c.read_table.ensures.value _ c.in_ok-ring.was _ _ _ _ _ c.route_least-least.ensures.least c.count.ensures.is c.put_ways.ensures
