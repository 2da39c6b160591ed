-- The line size (`SizeRules`, `Sizes`).
use Rattle.family.proofs.Sizes.{family-smallest}
use Rattle.ring.proofs.SizeRules.{size-rule, family-rule}
use Rattle.laws.proofs.rules.line_sizes.Goals as goal

pub returns-clause-rising : goal.returns-clause-rising
returns-clause-rising c = size-rule

pub returns-clause-family : goal.returns-clause-family
returns-clause-family c = family-rule

pub returns-clause-answers : goal.returns-clause-answers
returns-clause-answers c = family-smallest
