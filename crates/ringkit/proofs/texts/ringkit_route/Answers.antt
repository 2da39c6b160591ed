-- Routing by rule D: each clause by one law of the plan that is due (`PlanCalls`).
use Rattle.engines.specs.declared.Engine.TheVariants.{Level}
use Rattle.ringkit.proofs.PlanCalls.{route-says, plan-promise, plan-only, plan-fits, always-planned, plan-well}
use Rattle.ringkit.proofs.texts.ringkit_route.Goals as goal

pub returns-clause-promise : goal.returns-clause-promise
returns-clause-promise c = plan-promise _ _ _ _ _ _ (route-says Level _ _ _ _ c.route.ensures)

pub returns-clause-only : goal.returns-clause-only
returns-clause-only c = plan-only _ _ _ _ _ _ (route-says Level _ _ _ _ c.route.ensures)

pub returns-clause-best : goal.returns-clause-best
returns-clause-best c = λ a. plan-well _ _ _ _ _ _ (route-says Level _ _ _ _ c.route.ensures) a tt

pub returns-clause-fits : goal.returns-clause-fits
returns-clause-fits c = plan-fits _ _ _ _ _ _ (route-says Level _ _ _ _ c.route.ensures)

pub returns-clause-room : goal.returns-clause-room
returns-clause-room c = λ a room. always-planned _ _ _ _ _ _ (route-says Level _ _ _ _ c.route.ensures) a tt room
