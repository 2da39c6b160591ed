-- What the call of `ringkit` leaves no choice of, told of the reply (`ToldWork`).
use Rattle.ringkit_c.proofs.ToldWork.{told-bytes}
use Rattle.ringkit_c.proofs.working.ringkit_work_remove.Goals as goal

pub returns-clause-only_any : goal.returns-clause-only_any
returns-clause-only_any c = told-bytes c.ringkit_work_remove.ensures.only_any c.from.ensures
