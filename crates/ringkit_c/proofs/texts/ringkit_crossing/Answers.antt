-- What the call of `ringkit` promises, told of the reply (`Told`).
use Rattle.ringkit_c.proofs.Told.{told-bound}
use Rattle.ringkit_c.proofs.texts.ringkit_crossing.Goals as goal

pub returns-clause-bound : goal.returns-clause-bound
returns-clause-bound c = λ kind engine. told-bound _ _ c.from.ensures (c.ringkit_crossing.ensures.bound engine) kind
