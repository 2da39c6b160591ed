-- What is answered of a table (`TableRight`).
use Rattle.optimal.proofs.TableRight.{table-fits-right, table-optimal-right, one-table}
use Rattle.optimal.proofs.circuits_of_a_table.Goals as goal

pub returns-clause-fits : goal.returns-clause-fits
returns-clause-fits c = table-fits-right

pub returns-clause-optimal : goal.returns-clause-optimal
returns-clause-optimal c = table-optimal-right

pub returns-clause-one : goal.returns-clause-one
returns-clause-one c = one-table
