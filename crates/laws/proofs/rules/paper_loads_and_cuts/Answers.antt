-- The figures are the paper's (`Papers`).
use Rattle.ring.proofs.Papers.{across-is-D, unsplit-is-L, split-is-star, fractions}
use Rattle.laws.proofs.rules.paper_loads_and_cuts.Goals as goal

pub returns-clause-across : goal.returns-clause-across
returns-clause-across c = across-is-D

pub returns-clause-unsplit : goal.returns-clause-unsplit
returns-clause-unsplit c = unsplit-is-L

pub returns-clause-split : goal.returns-clause-split
returns-clause-split c = split-is-star

pub returns-clause-all : goal.returns-clause-all
returns-clause-all c = fractions
