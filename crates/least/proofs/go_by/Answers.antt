-- Rows go by the rule that is named, or it gives none (`Goes`).
use Rattle.least.proofs.Goes.{goes-turned, goes-best, goes-none, goes-rule-D}
use Rattle.least.proofs.go_by.Goals as goal

pub returns-in-Turns-clause-goes : goal.returns-in-Turns-clause-goes
returns-in-Turns-clause-goes g c = goes-turned c.args.ring _ _ _ c.in-Turns.is c.turn_rows.ensures.rows _ c.turn_rows.ensures.peak

pub returns-in-Ok-clause-goes : goal.returns-in-Ok-clause-goes
returns-in-Ok-clause-goes g c = goes-best c.args.ring _ _ _ _ c.in-BestChoice.is c.in-Ok.ensures.few c.in-Ok.ensures.best _ c.in-Ok.ensures.plan

pub returns-in-Err-clause-goes : goal.returns-in-Err-clause-goes
returns-in-Err-clause-goes g c = goes-none c.args.ring _ _ (g.R.Rows.rows c.route_best.new.rows) _ c.in-BestChoice.is c.in-Err.ensures.many

pub returns-in-RuleD-clause-goes : goal.returns-in-RuleD-clause-goes
returns-in-RuleD-clause-goes g c = goes-rule-D _ c.args.ring _ _ c.route.ensures.plan _ c.in-RuleD.is _ c.route.ensures.rows
