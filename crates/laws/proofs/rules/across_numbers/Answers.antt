-- Across numbers and their bound (`Across`, `Cuts`).
use Rattle.ring.proofs.Across.{either_order, one_link}
use Rattle.ring.proofs.Cuts.{cut-bounds}
use Rattle.laws.proofs.rules.across_numbers.Goals as goal

pub returns-clause-either : goal.returns-clause-either
returns-clause-either c = either_order

pub returns-clause-one_link : goal.returns-clause-one_link
returns-clause-one_link c = one_link

pub returns-clause-bounds : goal.returns-clause-bounds
returns-clause-bounds c = cut-bounds
