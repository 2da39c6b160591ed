-- `route` answers the plan of rules A to D.
use Rattle.std.proofs.Common.{refl, ap, ◌∙◌}
use Rattle.ring.specs.Sheet.{sents}
use Rattle.router.proofs.FourRules.{directed, kept-demands, turned-fit, rows-are, plan-is}
use Rattle.router.proofs.route.Goals as goal

pub figured-requires : goal.figured-requires
figured-requires g c = turned-fit _ c.args.ring _ _ _ _ _ refl c.rules_a_to_c-cut.ensures c.send_whole.ensures

pub returns-clause-rows : goal.returns-clause-rows
returns-clause-rows g c = rows-are _ c.args.ring _ _ _ _ _ refl c.rules_a_to_c-cut.ensures c.send_whole.ensures

pub returns-clause-plan : goal.returns-clause-plan
returns-clause-plan g c = plan-is _ c.args.ring _ _ _ _ _ refl c.rules_a_to_c-cut.ensures c.send_whole.ensures _ c.figured.ensures

pub returns-clause-demands : goal.returns-clause-demands
returns-clause-demands g c = kept-demands _ c.args.ring _ _ _ _ _ refl c.rules_a_to_c-cut.ensures c.requires.two c.requires.fit (ap sents c.send_whole.ensures ∙ directed _)
