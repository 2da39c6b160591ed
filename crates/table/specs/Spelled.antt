-- To believe: limits whose numbers can be spelled, as reading back what was written asks of them.
use Rattle.std.specs.Prelude.{◌<◌}
use Rattle.ring.specs.Limits.{Limits}
use Rattle.text.specs.Number.{limit}

-- a node and an amount within limits have no more digits than a number may have
pub record LimitsSpelled (limits : Limits) : Type 0 where
  pub nodes : limits.nodes < limit limits.digits
  pub amount : limits.amount < limit limits.digits
