-- The law of `turns`.
use Rattle.turns.proofs.InOrder.{falling-is}
use Rattle.laws.proofs.texts.falling_order.Goals as goal

pub returns : goal.returns
returns c = falling-is
