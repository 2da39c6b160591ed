-- One row less, in front and then back.
use Rattle.std.proofs.Common.{rules}
use Rattle.best.proofs.TrySteps.{first_held, front_held, back_held, front_few, back_few, leaf_is, node_is}
use Rattle.best.proofs.tries.+try_all.Goals as goal

pub returns-in_default : goal.returns-in_default
returns-in_default t c = leaf_is _ _ (search rules) _ _ _ _ (search rules) _ c.peak.ensures c.better.ensures

pub turned_back-turned-requires : goal.turned_back-turned-requires
turned_back-turned-requires t c = first_held c.in-Some.ensures.cases.0 c.requires.loads

pub try_all-best-requires : goal.try_all-best-requires
try_all-best-requires t c = (search rules, (front_few c.in-Some.ensures.cases.0 _ _ c.requires.few, front_held c.in-Some.ensures.cases.0 c.requires.loads))

pub try_all-requires : goal.try_all-requires
try_all-requires t c = (search rules, (back_few c.in-Some.ensures.cases.0 _ _ c.requires.few, back_held c.in-Some.ensures.cases.0 c.requires.loads c.turned_back-turned.ensures))

pub returns : goal.returns
returns t c = node_is _ _ _ _ _ _ _ _ _ _ c.in-Some.ensures.cases.0 c.turned_back-turned.ensures c.try_all-best.ensures c.try_all.ensures
