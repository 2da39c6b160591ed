-- What the call of `ringkit` promises, told of the reply (`Told`).
use Rattle.ringkit_c.proofs.Told.{told-success, told-length, told-reason}
use Rattle.ringkit_c.proofs.working.ringkit_work_write.Goals as goal

pub returns-clause-accepted : goal.returns-clause-accepted
returns-clause-accepted c = λ calls m. told-success _ _ _ c.from.ensures (c.ringkit_work_write.ensures.accepted calls m)

pub returns-clause-fits : goal.returns-clause-fits
returns-clause-fits c = λ calls m. told-length _ _ c.from.ensures (c.ringkit_work_write.ensures.fits calls m)

pub returns-clause-room : goal.returns-clause-room
returns-clause-room c = λ calls m room. told-reason _ _ c.from.ensures (c.ringkit_work_write.ensures.room calls m room)
