-- Rule A (`LargestCut`).
use Rattle.laws.proofs.OfTables.{cut-best, cut-one}
use Rattle.laws.proofs.rules.largest_cut_rule.Goals as goal

pub returns-clause-best : goal.returns-clause-best
returns-clause-best c = cut-best

pub returns-clause-only : goal.returns-clause-only
returns-clause-only c = cut-one
