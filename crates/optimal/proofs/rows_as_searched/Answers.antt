-- The search order (`OrderStands`).
use Rattle.optimal.proofs.OrderStands.{order-stands, one-order}
use Rattle.optimal.proofs.rows_as_searched.Goals as goal

pub returns-clause-is : goal.returns-clause-is
returns-clause-is c = order-stands

pub returns-clause-one : goal.returns-clause-one
returns-clause-one c = one-order
