-- What the call of `ringkit` promises, told of the reply (`Told`).
use Rattle.ringkit_c.proofs.Told.{told-only, told-length, told-reason}
use Rattle.ringkit_c.proofs.texts.ringkit_report.Goals as goal

pub returns-clause-only : goal.returns-clause-only
returns-clause-only c = told-only _ _ c.from.ensures c.ringkit_report.ensures.only

pub returns-clause-fits : goal.returns-clause-fits
returns-clause-fits c = told-length _ _ c.from.ensures c.ringkit_report.ensures.fits

pub returns-clause-room : goal.returns-clause-room
returns-clause-room c = λ within room. told-reason _ _ c.from.ensures (c.ringkit_report.ensures.room within room)
