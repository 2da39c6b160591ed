-- What the call of `ringkit` promises, told of the reply (`Told`).
use Rattle.ringkit_c.proofs.Told.{told-only, told-success, told-length, told-reason}
use Rattle.ringkit_c.proofs.texts.ringkit_read_matrix.Goals as goal

pub returns-clause-only : goal.returns-clause-only
returns-clause-only c = let e = c.of-family.ensures in told-only _ _ c.from.ensures (rw e at c.ringkit_read_matrix.ensures.only)

pub returns-clause-accepted : goal.returns-clause-accepted
returns-clause-accepted c = told-success _ _ _ c.from.ensures c.ringkit_read_matrix.ensures.accepted

pub returns-clause-fits : goal.returns-clause-fits
returns-clause-fits c = told-length _ _ c.from.ensures c.ringkit_read_matrix.ensures.fits

pub returns-clause-room : goal.returns-clause-room
returns-clause-room c = λ two fit room. told-reason _ _ c.from.ensures (c.ringkit_read_matrix.ensures.room two fit room)
