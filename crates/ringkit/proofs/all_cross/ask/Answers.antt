-- What reading answers is what is asked about, and gives the answer each way out.
use Rattle.std.proofs.lemmas.Result.{err_from_is_err_and}
use Rattle.table.proofs.Told.{read-range}
use Rattle.ringkit.proofs.RouteSteps.{router-takes}
use Rattle.ringkit.proofs.CrossingCalls.{ask_refused, ask_answers}
use Rattle.ringkit.proofs.all_cross.ask.Goals as goal

pub returns-in_err-ring : goal.returns-in_err-ring
returns-in_err-ring c =
    let p = err_from_is_err_and c.from_residual.result c.from_residual.ensures.1 in
    rw (p.1, p.2) (ask_refused c.args.table.now _ _ c.read_table.ensures.value _ c.in_err-ring.was)

pub crossing_of-requires-clause-two : goal.crossing_of-requires-clause-two
crossing_of-requires-clause-two c = (read-range c.args.table.now _ _ c.read_table.ensures.value _ c.in_ok-ring.was).within.few

pub crossing_of-requires-clause-fit : goal.crossing_of-requires-clause-fit
crossing_of-requires-clause-fit c = router-takes _ _ (read-range c.args.table.now _ _ c.read_table.ensures.value _ c.in_ok-ring.was)

pub returns : goal.returns
returns c = ask_answers c.args.table.now _ _ c.read_table.ensures.value _ c.in_ok-ring.was _ c.crossing_of.ensures.crossing
