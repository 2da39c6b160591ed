-- Two rows, by how they stand to each other (`Parallel`).
use Rattle.ring.proofs.SameNodes.{same-parallel}
use Rattle.laws.proofs.OfTables.{disjoint-rows, enclosing-rows, parallel-rows, either-parallel}
use Rattle.laws.proofs.rules.parallel_rows.Goals as goal

pub returns-clause-disjoint : goal.returns-clause-disjoint
returns-clause-disjoint c = disjoint-rows

pub returns-clause-encloses : goal.returns-clause-encloses
returns-clause-encloses c = enclosing-rows

pub returns-clause-parallel : goal.returns-clause-parallel
returns-clause-parallel c = parallel-rows

pub returns-clause-either : goal.returns-clause-either
returns-clause-either c = either-parallel

pub returns-clause-same_nodes : goal.returns-clause-same_nodes
returns-clause-same_nodes c = same-parallel
