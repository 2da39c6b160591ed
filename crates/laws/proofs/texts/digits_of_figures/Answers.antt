use Rattle.laws.proofs.Figures.{short-nodes, short-amounts, short-halves, short-loads, fits-text}
use Rattle.laws.proofs.texts.digits_of_figures.Goals as goal

pub returns-clause-nodes : goal.returns-clause-nodes
returns-clause-nodes c = short-nodes

pub returns-clause-amounts : goal.returns-clause-amounts
returns-clause-amounts c = short-amounts

pub returns-clause-halves : goal.returns-clause-halves
returns-clause-halves c = short-halves

pub returns-clause-loads : goal.returns-clause-loads
returns-clause-loads c = short-loads

pub returns-clause-fits : goal.returns-clause-fits
returns-clause-fits c = fits-text
