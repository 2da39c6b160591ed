-- `route_best` answers the plan of rules A to C and the best choice.
use Rattle.std.proofs.Common.{refl, ap}
use Rattle.ring.specs.Sheet.{sents}
use Rattle.router.proofs.FourRules.{kept-demands, best-fit}
use Rattle.router.proofs.route_best.Goals as goal

pub figured-requires : goal.figured-requires
figured-requires g c = best-fit _ c.args.ring _ _ _ _ _ refl c.rules_a_to_c-cut.ensures c.in_ok-send_best.ensures.best

pub returns-in_err-send_best-clause-demands : goal.returns-in_err-send_best-clause-demands
returns-in_err-send_best-clause-demands g c = kept-demands _ c.args.ring _ _ _ _ _ refl c.rules_a_to_c-cut.ensures c.requires.two c.requires.fit (ap sents c.in_err-send_best.ensures.same)

pub returns-clause-demands : goal.returns-clause-demands
returns-clause-demands g c = kept-demands _ c.args.ring _ _ _ _ _ refl c.rules_a_to_c-cut.ensures c.requires.two c.requires.fit c.in_ok-send_best.ensures.best.choice.same
