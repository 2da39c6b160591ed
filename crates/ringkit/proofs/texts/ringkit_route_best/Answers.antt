-- Routing by the best choice: each clause by one law of the plan that is due (`PlanCalls`).
use Rattle.ringkit.proofs.PlanCalls.{plan-promise, plan-only, plan-fits, always-planned, plan-well, few-accepted, small-few, few-not-23}
use Rattle.ringkit.proofs.texts.ringkit_route_best.Goals as goal

pub returns-clause-promise : goal.returns-clause-promise
returns-clause-promise c = plan-promise _ _ _ _ _ _ c.route_best.ensures

pub returns-clause-only : goal.returns-clause-only
returns-clause-only c = plan-only _ _ _ _ _ _ c.route_best.ensures

pub returns-clause-best : goal.returns-clause-best
returns-clause-best c = λ few. plan-well _ _ _ _ _ _ c.route_best.ensures (few-accepted _ few) few

pub returns-clause-fits : goal.returns-clause-fits
returns-clause-fits c = plan-fits _ _ _ _ _ _ c.route_best.ensures

pub returns-clause-room : goal.returns-clause-room
returns-clause-room c = λ few room. always-planned _ _ _ _ _ _ c.route_best.ensures (few-accepted _ few) few room

pub returns-clause-few : goal.returns-clause-few
returns-clause-few c = λ small. few-not-23 _ _ _ _ _ c.route_best.ensures (small-few _ _ small)
