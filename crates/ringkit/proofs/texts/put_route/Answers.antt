-- Routing a table's rows: the router's plan is that of their demands (`RouteSteps`), which is written as sheets are.
use Rattle.ringkit.proofs.RouteSteps.{router-takes, rows-few, plan-fills}
use Rattle.std.proofs.Common.{rules}
use Rattle.ringkit.proofs.texts.put_route.Goals as goal

pub route-plan-requires-clause-fit : goal.route-plan-requires-clause-fit
route-plan-requires-clause-fit c = search router-takes

pub put_sheet-requires-clause-few_rows : goal.put_sheet-requires-clause-few_rows
put_sheet-requires-clause-few_rows c = search (rows-few, rules)

pub returns : goal.returns
returns c = search (rules, plan-fills)
