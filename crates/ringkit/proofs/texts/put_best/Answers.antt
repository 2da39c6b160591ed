-- Routing a table's rows by the best choice: the router's plan of them is due, which is written as sheets are; and where there is none, 23 is given (`RouteSteps`).
use Rattle.std.proofs.Common.{rules, refl}
use Rattle.ringkit.proofs.RouteSteps.{router-takes, best-few, split-refused, best-says}
use Rattle.ringkit.proofs.texts.put_best.Goals as goal

pub route_best-requires-clause-fit : goal.route_best-requires-clause-fit
route_best-requires-clause-fit c = search router-takes

pub put_sheet-requires-clause-few_rows : goal.put_sheet-requires-clause-few_rows
put_sheet-requires-clause-few_rows c = search (best-few, rules)

pub returns-in_default : goal.returns-in_default
returns-in_default c = λ t of. rw c.whole.ensures (split-refused _ c.args.ring _ c.requires t of _ c.in_default.ensures.many)

pub returns : goal.returns
returns c = λ t of. best-says _ c.args.ring _ c.requires t of _ c.in-Ok.ensures.few c.in-Ok.ensures.best _ c.in-Ok.ensures.plan _ refl _ _ _ c.put_sheet.ensures
