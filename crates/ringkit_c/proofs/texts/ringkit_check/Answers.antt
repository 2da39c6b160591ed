-- What the call of `ringkit` promises, told of the reply (`Told`).
use Rattle.ringkit_c.proofs.Told.{told-yes}
use Rattle.ringkit_c.proofs.texts.ringkit_check.Goals as goal

pub returns-clause-best : goal.returns-clause-best
returns-clause-best c = λ e. c.ringkit_check.ensures.best (told-yes _ _ c.from.ensures e)
